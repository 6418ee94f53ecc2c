use Rattle.std.proofs.Common.{◌≡◌, ℕ, ◌≤◌, true, List, length, Some, Ok, arith, rules}
use Rattle.std.proofs.lemmas.Bool.Decides.{nat_tests}
use Rattle.terms.specs.Entries.{numbered, replaced}
use Rattle.terms.proofs.Numbered.{numbered_none, numbered_some, replaced-changed}
use Rattle.tables.specs.Drawing.{Drawing, set_initial, descends, starting_at, with_states}
use Rattle.tables.specs.declared.chart.State.{State}
use Rattle.tables.proofs.Kept.{initial_kept}
use Rattle.tables.proofs.tables.Tables.set_initial.Goals as goal

-- a declared state with its target replaced
initial_taken : (d : Drawing) (state target : ℕ) (found : State) (after : List State)
    → numbered d.states state ≡ Some found → target ≤ length d.states → descends d.states target state ≡ true → after ≡ replaced d.states state (starting_at target found) → set_initial d state target ≡ Ok (with_states d after)
unfolding set_initial
initial_taken d state target found after is low below new =
    let declared = numbered_some d.states state found is in
    let changes = replaced-changed d.states state (starting_at target) found is in
    grind (arith, nat_tests)

pub invariant_of-self : goal.invariant_of-self
invariant_of-self c = record { within = initial_kept _ _ c.args.state c.args.target (search (rules, initial_taken)) c.args.self.now.within }

pub returns : goal.returns
returns c = search (rules, initial_taken)

pub returns-in_err-found : goal.returns-in_err-found
unfolding set_initial
returns-in_err-found c = grind (arith, nat_tests, numbered_none)
