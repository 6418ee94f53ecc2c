use Rattle.std.proofs.Common.{◌≡◌, List, [], ◌∷◌, Some, None, sym, ap, subst}
use Rattle.tables.specs.Tables.{drawing}
use Rattle.tables.specs.Drawing.{Drawing, undrawn, with_states, add_state, state_of, set_initial}
use Rattle.objects.specs.Worked.{inside, five_states, WorkedCases}
use Rattle.tables.specs.declared.chart.State.{State}
use Rattle.objects.proofs.Examples.{done, worked}
use Rattle.objects.proofs.worked.five_states.Goals as goal

chart : List State → Drawing
chart ss = with_states undrawn ss

pub returns : goal.returns
unfolding chart add_state state_of set_initial
returns c =
    let one : drawing c.add_state.new.self ≡ chart (inside 0 None ∷ []) = done _ c.add_state.result _ _ _ c.add_state.ensures (ap (λ d. add_state d 0 0 0) c.new-tables.ensures) in
    let two : drawing c.add_state-2.new.self ≡ chart (inside 0 None ∷ inside 1 None ∷ []) = done _ c.add_state-2.result _ _ _ c.add_state-2.ensures (ap (λ d. add_state d 1 0 0) one) in
    let three : drawing c.add_state-3.new.self ≡ chart (inside 0 None ∷ inside 1 None ∷ inside 1 None ∷ []) = done _ c.add_state-3.result _ _ _ c.add_state-3.ensures (ap (λ d. add_state d 1 0 0) two) in
    let four : drawing c.add_state-4.new.self ≡ chart (inside 0 None ∷ inside 1 None ∷ inside 1 None ∷ inside 3 None ∷ []) = done _ c.add_state-4.result _ _ _ c.add_state-4.ensures (ap (λ d. add_state d 3 0 0) three) in
    let five : drawing c.add_state-5.new.self ≡ chart (inside 0 None ∷ inside 1 None ∷ inside 1 None ∷ inside 3 None ∷ inside 0 None ∷ []) = done _ c.add_state-5.result _ _ _ c.add_state-5.ensures (ap (λ d. add_state d 0 0 0) four) in
    let first : drawing c.set_initial.new.self ≡ chart (inside 0 (Some 2) ∷ inside 1 None ∷ inside 1 None ∷ inside 3 None ∷ inside 0 None ∷ []) = done _ c.set_initial.result _ _ _ c.set_initial.ensures (ap (λ d. set_initial d 1 2) five) in
    let all : drawing c.set_initial-2.new.self ≡ chart five_states = done _ c.set_initial-2.result _ _ _ c.set_initial-2.ensures (ap (λ d. set_initial d 3 4) first) in
    record { chart = all; cases = subst WorkedCases (sym (ap (λ d. d.states) all)) worked }
