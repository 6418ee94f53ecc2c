use Rattle.std.proofs.Common.{length, rules, tests, eqb, sym, ap, ◌∙◌, arith}
use Rattle.std.proofs.lemmas.Bool.{eqb-true, eqb-false}
use Rattle.std.proofs.lemmas.Iterator.Splits.{YieldsList-from_slice_split}
use Rattle.scenario.proofs.Scanned.{cut_first, not_cut, not_read, not_held, all_read, full_from_push, misspelt_from_text, spelt_from_text}
use Rattle.terms.specs.Entries.{entries}
use Rattle.scenario.proofs.line.Line.parse.Goals as goal

pub returns-then-not-is_empty : goal.returns-then-not-is_empty
returns-then-not-is_empty c =
    misspelt_from_text c.args.bytes.now c.in_ok-letter.letter.now c.in_ok-letter.text.now c.in_ok-letter.ensures.cases.0
    (not_cut c.in_ok-letter.text.now c.next.result c.next.new.self c.in_ok-next.field-0
    (YieldsList-from_slice_split _ (λ b. eqb b 32) c.in_ok-letter.text.now c.split-parts.ensures.rest c.split-parts.ensures.done c.split-parts.ensures.closure (λ x b q k. search (rules, tests)))
    c.next.ensures.steps c.in_ok-next.was (eqb-false _ 0 (sym c.if-not-is_empty.ensures)))

pub returns : goal.returns
returns c =
    let cut = cut_first c.in_ok-letter.text.now c.next.result c.next.new.self c.in_ok-next.field-0 (YieldsList-from_slice_split _ (λ b. eqb b 32) c.in_ok-letter.text.now c.split-parts.ensures.rest c.split-parts.ensures.done c.split-parts.ensures.closure (λ x b q k. search (rules, tests))) c.next.ensures.steps c.in_ok-next.was (eqb-true _ 0 (sym c.if-not-is_empty.ensures)) c.into_iter-digits-iterator.result c.into_iter-digits-iterator.ensures.into_iter_gives in
    let spelt = spelt_from_text c.args.bytes.now c.in_ok-letter.letter.now c.in_ok-letter.text.now (entries c.loop-digits.self.numbers) (omega arith) c.in_ok-letter.ensures.cases.0 (all_read cut c.loop-digits.yielded c.loop-digits.digits-iterator c.loop-digits.yielded_by c.loop-digits.invariant.0 c.next-in-loop-digits.result c.next-in-loop-digits.new.self c.next-in-loop-digits.ensures.steps c.in-None.is) in
    rw (c.loop-digits.invariant.1 ∙ c.from-self.ensures) spelt

pub returns-in_err-number : goal.returns-in_err-number
returns-in_err-number c =
    let cut = cut_first c.in_ok-letter.text.now c.next.result c.next.new.self c.in_ok-next.field-0 (YieldsList-from_slice_split _ (λ b. eqb b 32) c.in_ok-letter.text.now c.split-parts.ensures.rest c.split-parts.ensures.done c.split-parts.ensures.closure (λ x b q k. search (rules, tests))) c.next.ensures.steps c.in_ok-next.was (eqb-true _ 0 (sym c.if-not-is_empty.ensures)) c.into_iter-digits-iterator.result c.into_iter-digits-iterator.ensures.into_iter_gives in
    rw c.from_residual-in_err-number.ensures
    (misspelt_from_text c.args.bytes.now c.in_ok-letter.letter.now c.in_ok-letter.text.now c.in_ok-letter.ensures.cases.0
    (not_read cut c.loop-digits.yielded c.loop-digits.digits-iterator c.loop-digits.yielded_by c.loop-digits.invariant.0 c.next-in-loop-digits.result c.next-in-loop-digits.new.self c.next-in-loop-digits.ensures.steps c.in-Some.digits c.in-Some.is c.in_err-number.ensures))

pub returns-in_err-ok : goal.returns-in_err-ok
returns-in_err-ok c =
    let cut = cut_first c.in_ok-letter.text.now c.next.result c.next.new.self c.in_ok-next.field-0 (YieldsList-from_slice_split _ (λ b. eqb b 32) c.in_ok-letter.text.now c.split-parts.ensures.rest c.split-parts.ensures.done c.split-parts.ensures.closure (λ x b q k. search (rules, tests))) c.next.ensures.steps c.in_ok-next.was (eqb-true _ 0 (sym c.if-not-is_empty.ensures)) c.into_iter-digits-iterator.result c.into_iter-digits-iterator.ensures.into_iter_gives in
    rw c.from_residual-in_err-ok.ensures
    (misspelt_from_text c.args.bytes.now c.in_ok-letter.letter.now c.in_ok-letter.text.now c.in_ok-letter.ensures.cases.0
    (not_held cut c.loop-digits.yielded c.loop-digits.digits-iterator c.loop-digits.yielded_by c.loop-digits.invariant.0 c.next-in-loop-digits.result c.next-in-loop-digits.new.self c.next-in-loop-digits.ensures.steps c.in-Some.digits c.in-Some.is (omega (arith, ap length c.in_ok-letter.ensures.cases.0)) (full_from_push 39 (entries c.loop-digits.self.numbers) (entries c.push.new.self) c.in_ok-number.field-0 c.push.result c.push.ensures (sym c.ok.ensures.value ∙ c.in_err-ok.was))))
