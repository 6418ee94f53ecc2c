use Rattle.std.proofs.Common.{ℕ, List, ◌∷◌, [], eqb, Ok, Err, sym, ◌∙◌, subst, rules, tests}
use Rattle.std.proofs.lemmas.Bool.Decides.{Decides-eqb}
use Rattle.std.proofs.lemmas.Iterator.Consumers.{YieldsList-at}
use Rattle.std.proofs.lemmas.Iterator.Splits.{YieldsList-from_slice_split}
use Rattle.std.proofs.lemmas.Option.{MatchOption-at_none, MatchOption-at_some}
use Rattle.std.proofs.lemmas.Result.{err_from_is_err_and}
use Rattle.std.proofs.lemmas.Slice.Eq.{strip_suffix_is}
use Rattle.scenario.specs.Files.{FileIs, Unless}
use Rattle.scenario.specs.Reading.{Page, page_of}
use Rattle.scenario.specs.declared.reader.Reader.{Reader}
use Rattle.scenario.specs.declared.reader.ReadError.{ReadError}
use Rattle.scenario.proofs.Read.{yields_lines, read_fault, read_end, read_more, read_nothing, unless_so}
use Rattle.scenario.proofs.reader.read_lines.Goals as goal
use Rattle.scenario.proofs.reader.read_lines.Goals.{in-Some+in-None, in_default}

pub loop-line-preserved : goal.loop-line-preserved
loop-line-preserved c = read_more (λ part. part.now) c.loop-line.yielded c.loop-line.invariant c.in-Some-line.line (page_of c.take.new.self.draft c.take.new.self.script) c.take.new.self.lines c.in_ok-take.ensures.line c.take.ensures.count

pub returns-in_err-take : goal.returns-in_err-take
returns-in_err-take c =
    let p = err_from_is_err_and c.from_residual.result c.from_residual.ensures.1 in
    let ended = MatchOption-at_some _ _ c.in-Some.text c.in-Some.is (strip_suffix_is Decides-eqb c.args.bytes.now (10 ∷ []) c.strip_suffix.result c.strip_suffix.ensures.cases) in
    rw p.1
    (subst (λ (e : ReadError). Unless e (λ f. FileIs c.args.bytes.now (Err f))) (sym p.2)
    (unless_so c.in_err-take.field-0.0 c.in_err-take.ensures.line
    (λ f said. read_fault c.args.bytes.now (yields_lines c.args.bytes.now c.in-Some.text.now ended (YieldsList-at c.into_iter-line-iterator.ensures.into_iter_gives (YieldsList-from_slice_split _ (λ b. eqb b 10) c.in-Some.text.now c.split-line-items.ensures.rest c.split-line-items.ensures.done c.split-line-items.ensures.closure (λ x b q k. search (rules, tests))))) c.loop-line.yielded c.loop-line.line-iterator c.loop-line.yielded_by c.loop-line.invariant c.next.result c.next.new.self c.next.ensures.steps c.requires c.in-Some-line.line c.in-Some-line.is f (said.0 ∙ c.take.ensures.count) said.1)))

-- what a reader says of the file
abbrev Says : List ℕ → Reader → Type 0
Says bytes r = FileIs bytes (Ok (page_of r.draft r.script).cell)

pub returns : goal.returns
returns c =
    let suffix = strip_suffix_is Decides-eqb c.args.bytes.now (10 ∷ []) c.strip_suffix.result c.strip_suffix.ensures.cases in
    elim c.match-strip_suffix.branch [
      | in-Some+in-None w ↦
          subst (Says c.args.bytes.now) (sym w.reader-is)
          (read_end c.args.bytes.now (yields_lines c.args.bytes.now w.in-Some.text.now (MatchOption-at_some _ _ w.in-Some.text w.in-Some.is suffix) (YieldsList-at w.into_iter-line-iterator.ensures.into_iter_gives (YieldsList-from_slice_split _ (λ b. eqb b 10) w.in-Some.text.now w.split-line-items.ensures.rest w.split-line-items.ensures.done w.split-line-items.ensures.closure (λ x b q k. search (rules, tests))))) w.loop-line.yielded w.loop-line.line-iterator w.loop-line.yielded_by w.loop-line.invariant w.next.result w.next.new.self w.next.ensures.steps c.requires w.in-None.is)
      | in_default w ↦
          subst (Says c.args.bytes.now) (sym w.reader-is)
          (subst (λ (p : Page). FileIs c.args.bytes.now (Ok p.cell)) (sym c.new-reader.ensures.page) (read_nothing c.args.bytes.now c.requires (MatchOption-at_none _ _ w.in_default.is suffix)))
    ]
