-- Each call on a cell's tables keeps their limits.
use Rattle.std.proofs.Common.{◌≡◌, ℕ, suc, ◌≤◌, true, List, [], ◌∷◌, ◌++◌, length, IfSome, Some, None, Ok, Err, Option, Result, refl, sym, ap, subst, ⊎_elim, arith}
use Rattle.std.proofs.ByRecursion.{All-push, All-weaker}
use Rattle.std.proofs.lemmas.List.{length_push}
use Rattle.std.proofs.lemmas.Bool.Decides.{nat_tests}
use Rattle.terms.specs.Calls.{Follows}
use Rattle.terms.specs.declared.table.TableFault.{TableFault}
use Rattle.terms.specs.Entries.{values, replaced, changed, added}
use Rattle.terms.proofs.Held.{length-replaced, length-changed, numbered_last, numbered_push_cases, numbered-changed, all_replaced, all_changed}
use Rattle.tables.specs.Drawing.{Drawing, undrawn, named, made, send_of, with_sends, add_send, parent_in, parent_of, up, with_states, state_of, add_state, descends, starting_at, set_initial, row_of, with_rows, add_row, flat_row_of, with_flat_rows, add_flat_row, with_marks, set_marks, with_transitions, transition_of, add_transition, with_arc, set_arc}
use Rattle.tables.specs.declared.net.Transition.{Transition}
use Rattle.tables.specs.Limits.{DrawingWithin, SendWithin, StateWithin, StatesWithin, RowWithin, FlatRowWithin, TransitionWithin}
use Rattle.tables.specs.declared.chart.State.{State}
use Rattle.tables.specs.declared.chart.RowNumbers.{RowNumbers}
use Rattle.tables.proofs.Chains.{up_same, descends_same, state_still, parent_push, parent_starting_at}

pub undrawn_within : DrawingWithin undrawn
undrawn_within = grind arith

-- a drawing with an entry added is within its limits, if it is with any entry that is within its own
added_kept : {X : Type 0} (P : X → Type 0) (make : List X → Drawing) (e : Drawing) (N : ℕ) (xs : List X) (o : Option X) → made make (added N xs o) ≡ Ok e → IfSome o P
    → ((x : X) → P x → length (xs ++ x ∷ []) ≤ N → DrawingWithin (make (xs ++ x ∷ []))) → DrawingWithin e
added_kept P make e N xs None is holds kept = absurd (grind (arith, nat_tests))
added_kept P make e N xs (Some x) is holds kept =
    let makes : make (xs ++ x ∷ []) ≡ e = grind (arith, nat_tests) in
    let long = length_push xs x in
    subst DrawingWithin makes (kept x holds (grind (arith, nat_tests)))

-- a table that an entry is added to, or not, as a part of a drawing
pub added_held : {X U : Type 0} (make : List X → Drawing) (N : ℕ) (r : Result U TableFault) {xs ys : List X} {o x : Option X} → Follows (added N xs o) r xs ys → o ≡ x
    → (made make (added N xs x) ≡ Ok (make ys) → DrawingWithin (make xs) → DrawingWithin (make ys)) → DrawingWithin (make xs) → DrawingWithin (make ys)
added_held make N (Ok u) is means keeps w = keeps (ap (made make) (rw means at is)) w
added_held make N (Err f) is means keeps w = subst (λ l. DrawingWithin (make l)) (sym is.1) w

pub send_kept : (d e : Drawing) (kind object signal word : ℕ) → add_send d kind object signal word ≡ Ok e → DrawingWithin d → DrawingWithin e
unfolding add_send send_of
send_kept d e kind object signal word is w =
    added_kept SendWithin (with_sends d) e 32 d.sends (send_of kind object signal word) is (grind (arith, nat_tests))
    (λ x new few.
    let more = length (d.sends ++ x ∷ []) in
    let long = length_push d.sends x in
    let sends = All-push SendWithin d.sends x w.sends new in
    let states = state_still (length d.sends) d.states d.states w.chart.states (λ _ _. refl) more (omega arith) (omega arith) in
    let rows = All-weaker (RowWithin (length d.sends) (length d.states)) (RowWithin more (length d.states)) (λ r h. grind arith) d.rows w.chart.rows in
    let flat_rows = All-weaker (FlatRowWithin (length d.sends)) (FlatRowWithin more) (λ r h. grind arith) d.flat_rows w.flat_rows in
    let transitions = All-weaker (TransitionWithin (length d.sends)) (TransitionWithin more) (λ t h. grind arith) d.transitions w.transitions in
    grind arith)

-- with a chart that is not shorter, of states within their limits
states_kept : (d : Drawing) (ss : List State) → length d.states ≤ length ss → length ss ≤ 32
    → StatesWithin (length d.sends) ss → DrawingWithin d → DrawingWithin (with_states d ss)
states_kept d ss longer few within w =
    let rows = All-weaker (RowWithin (length d.sends) (length d.states)) (RowWithin (length d.sends) (length ss)) (λ r h. grind arith) d.rows w.chart.rows in
    grind arith

pub state_kept : (d e : Drawing) (parent entry exit : ℕ) → add_state d parent entry exit ≡ Ok e → DrawingWithin d → DrawingWithin e
unfolding add_state state_of
state_kept d e parent entry exit is w =
    let ss = d.states in
    let Last : State → Type 0 = λ s. StateWithin (length d.sends) (ss ++ s ∷ []) (suc (length ss)) s in
    let ts = ss ++ (record { parent = parent; entry = named entry; exit = named exit; initial = None }) ∷ [] in
    let above : up ts 4 (suc (length ss)) ≡ up ts 3 parent = ap (λ o. up ts 3 (parent_in o)) (numbered_last ss _) in
    let same = up_same (length d.sends) ss ts w.chart.states (parent_push ss _) 3 parent in
    added_kept Last (with_states d) e 32 ss (state_of d parent entry exit) is (grind (arith, nat_tests))
    (λ x new few.
    let long = length_push ss x in
    let old = state_still (length d.sends) ss (ss ++ x ∷ []) w.chart.states (parent_push ss x) (length d.sends) (omega arith) (omega arith) in
    states_kept d (ss ++ x ∷ []) (omega arith) few
    (λ n s at. ⊎_elim (old n s) (λ last. rw (last.0, ← last.1) new) (numbered_push_cases ss x n s at))
    w)

pub initial_kept : (d e : Drawing) (state target : ℕ) → set_initial d state target ≡ Ok e → DrawingWithin d → DrawingWithin e
unfolding set_initial
initial_kept d e state target is w =
    let ss = d.states in
    let ts = changed ss state (starting_at target) in
    let makes : with_states d ts ≡ e = grind (arith, nat_tests) in
    let below : descends ss target state ≡ true = grind (arith, nat_tests) in
    let long = length-changed ss state (starting_at target) in
    let same : (m : ℕ) → m ≤ length ss → parent_of ts m ≡ parent_of ss m = λ m _. parent_starting_at target ss state m in
    let still = descends_same (length d.sends) ss ts w.chart.states same target state (grind (arith, nat_tests)) in
    subst DrawingWithin makes
    (states_kept d ts (omega arith) (omega arith)
    (λ n s at.
    let was = numbered-changed ss state (starting_at target) n s at in
    let old = state_still (length d.sends) ss ts w.chart.states same (length d.sends) (omega arith) (omega arith) n was.0 was.1 in
    grind arith)
    w)

pub row_kept : (d e : Drawing) (numbers : RowNumbers) → add_row d numbers ≡ Ok e → DrawingWithin d → DrawingWithin e
unfolding add_row row_of
row_kept d e numbers is w =
    let P = RowWithin (length d.sends) (length d.states) in
    added_kept P (with_rows d) e 64 d.rows (row_of d numbers) is (grind (arith, nat_tests))
    (λ x new few. let rows = All-push P d.rows x w.chart.rows new in grind arith)

pub flat_row_kept : (d e : Drawing) (state signal kind next send : ℕ) → add_flat_row d state signal kind next send ≡ Ok e → DrawingWithin d → DrawingWithin e
unfolding add_flat_row flat_row_of
flat_row_kept d e state signal kind next send is w =
    let P = FlatRowWithin (length d.sends) in
    added_kept P (with_flat_rows d) e 64 d.flat_rows (flat_row_of d state signal kind next send) is (grind (arith, nat_tests))
    (λ x new few. let flat_rows = All-push P d.flat_rows x w.flat_rows new in grind arith)

pub marks_kept : (d e : Drawing) (place count : ℕ) → set_marks d place count ≡ Ok e → DrawingWithin d → DrawingWithin e
marks_kept d e place count is w =
    let makes : with_marks d (replaced d.marks place count) ≡ e = grind (arith, nat_tests) in
    let places = length-replaced d.marks place count in
    let marks = all_replaced (λ n. n ≤ 255) d.marks place count (grind (arith, nat_tests)) w.marks in
    subst DrawingWithin makes (grind arith)

pub transition_kept : (d e : Drawing) (signal send : ℕ) → add_transition d signal send ≡ Ok e → DrawingWithin d → DrawingWithin e
unfolding add_transition transition_of
transition_kept d e signal send is w =
    let P = TransitionWithin (length d.sends) in
    added_kept P (with_transitions d) e 8 d.transitions (transition_of d signal send) is (grind (arith, nat_tests))
    (λ x new few. let transitions = All-push P d.transitions x w.transitions new in grind arith)

with_arc_within : (sends place take give : ℕ) → take ≤ 255 → give ≤ 255 → (t : Transition) → TransitionWithin sends t → TransitionWithin sends (with_arc place take give t)
with_arc_within sends place take give few fewer t w =
    let P : ℕ → Type 0 = λ n. n ≤ 255 in
    let takes = all_replaced P (values t.takes) place take few w.takes in
    let gives = all_replaced P (values t.gives) place give fewer w.gives in
    grind (arith, length-replaced {T = ℕ})

pub arc_kept : (d e : Drawing) (transition place take give : ℕ) → set_arc d transition place take give ≡ Ok e → DrawingWithin d → DrawingWithin e
unfolding set_arc
arc_kept d e transition place take give is w =
    let f = with_arc place take give in
    let makes : with_transitions d (changed d.transitions transition f) ≡ e = grind (arith, nat_tests) in
    let long = length-changed d.transitions transition f in
    let keeps = with_arc_within (length d.sends) place take give (grind (arith, nat_tests)) (grind (arith, nat_tests)) in
    let transitions = all_changed (TransitionWithin (length d.sends)) d.transitions transition f keeps w.transitions in
    subst DrawingWithin makes (grind arith)
