use Rattle.std.proofs.Common.{rules, ◌+◌, List, map, Ok, Option, Result, vec_items, sym, ap, ◌∙◌, subst}
use Rattle.std.proofs.lemmas.List.{map_push}
use Rattle.std.proofs.lemmas.Result.{err_from_is_err_and}
use Rattle.scenario.specs.Cell.{Order, order}
use Rattle.scenario.specs.Reading.{LineIs, drafted, outcome}
use Rattle.scenario.specs.declared.fault.Cause.{Cause}
use Rattle.scenario.specs.declared.script.Command.{Command}
use Rattle.scenario.proofs.Caused.{ok_before, cause_before}
use Rattle.scenario.proofs.reader.Reader.take.Goals as goal

pub returns-in_err-command-clause-line : goal.returns-in_err-command-clause-line
returns-in_err-command-clause-line c =
    let script = map order (vec_items c.args.self.now.script) in
    let p = err_from_is_err_and c.from_residual.result c.from_residual.ensures.1 in
    let fault = cause_before (c.args.self.now.lines + 1) c.line.result c.map_err.result _ c.map_err.ensures.cases (λ e f h. search rules) c.in_err-command.field-0.0 c.in_err-command.was in
    rw (p.1, p.2) (fault.0, subst (λ (r : Result (Option Command) Cause). LineIs (drafted c.args.self.now.draft script) c.args.bytes.now (outcome c.line.new.self script r)) fault.1 (c.line.ensures script))

pub returns-in_ok-push-clause-line : goal.returns-in_ok-push-clause-line
returns-in_ok-push-clause-line c =
    let script = map order (vec_items c.args.self.now.script) in
    let said = ok_before (c.args.self.now.lines + 1) c.line.result c.map_err.result _ c.map_err.ensures.cases c.in_ok-command.field-0 c.in_ok-command.was ∙ ap Ok c.in-Some.is in
    let more = sym (ap (map order) c.in_ok-push.ensures.items ∙ map_push order (vec_items c.args.self.now.script) c.in-Some.command) in
    subst (λ (os : List Order). LineIs (drafted c.args.self.now.draft script) c.args.bytes.now (Ok (drafted c.line.new.self os))) more
    (subst (λ (r : Result (Option Command) Cause). LineIs (drafted c.args.self.now.draft script) c.args.bytes.now (outcome c.line.new.self script r)) said (c.line.ensures script))

pub returns-in_default-clause-line : goal.returns-in_default-clause-line
returns-in_default-clause-line c =
    let script = map order (vec_items c.args.self.now.script) in
    let said = ok_before (c.args.self.now.lines + 1) c.line.result c.map_err.result _ c.map_err.ensures.cases c.in_ok-command.field-0 c.in_ok-command.was ∙ ap Ok c.in_default.is in
    subst (λ (r : Result (Option Command) Cause). LineIs (drafted c.args.self.now.draft script) c.args.bytes.now (outcome c.line.new.self script r)) said (c.line.ensures script)
