-- What the tables of a cell hold, and what each call makes of them.
use Rattle.std.specs.Prelude.{ℕ, zero, suc, Bool, true, cond, ◌&&◌, ◌||◌, List, [], length, replicate, Some, None, Ok, Err, Option, Result, ◌==◌, nat_le, nat_lt}
use Rattle.std.specs.Bool.{then_some}
use Rattle.std.specs.Option.{option_map, option_zip}
use Rattle.terms.specs.Entries.{entries, values, numbered, replaced, changed, added}
use Rattle.terms.specs.Ranges.{between}
use Rattle.terms.specs.Slots.{filled, put}
use Rattle.terms.specs.declared.send.Send.{Send}
use Rattle.terms.specs.declared.send.Send.TheVariants.{Post, Publish, Recall}
use Rattle.terms.specs.declared.slots.Slots.{Slots}
use Rattle.terms.specs.declared.table.Table.{Table}
use Rattle.terms.specs.declared.table.TableFault.{TableFault}
use Rattle.terms.specs.declared.table.TableFault.TheVariants.{Value}
use Rattle.tables.specs.declared.chart.State.{State}
use Rattle.tables.specs.declared.chart.Row.{Row}
use Rattle.tables.specs.declared.chart.RowNumbers.{RowNumbers}
use Rattle.tables.specs.declared.chart.Guard.{Guard}
use Rattle.tables.specs.declared.chart.Guard.TheVariants.{Always, Is, Under}
use Rattle.tables.specs.declared.chart.Action.{Action}
use Rattle.tables.specs.declared.chart.Action.TheVariants as action
use Rattle.tables.specs.declared.flat.FlatRow.{FlatRow}
use Rattle.tables.specs.declared.flat.FlatAction.{FlatAction}
use Rattle.tables.specs.declared.flat.FlatAction.TheVariants as flat
use Rattle.tables.specs.declared.net.Transition.{Transition}
use Rattle.tables.specs.declared.chart.Crossing.{Crossing}
use Rattle.tables.specs.declared.chart.Crossing.TheVariants.{Exit, Entry}
use Rattle.tables.specs.declared.chart.Chart.{Chart}
use Rattle.tables.specs.declared.flat.Flat.{Flat}
use Rattle.tables.specs.declared.net.Net.{Net}

-- a transition with no takes and gives yet
abbrev pub blank_transition : ℕ → Option ℕ → Transition
blank_transition signal send = record { signal = signal; send = send; takes = filled 8 0; gives = filled 8 0 }

-- sends, states, rows and transitions in the order in which they were declared; marks by place
pub record Drawing : Type 0 where
  pub sends : List Send
  pub states : List State
  pub rows : List Row
  pub flat_rows : List FlatRow
  pub marks : List ℕ
  pub transitions : List Transition

-- what the tables and the marks of a cell draw
abbrev pub drawn : Table Send 32 → Table State 32 → Table Row 64 → Table FlatRow 64 → Slots ℕ 8 → Table Transition 8 → Drawing
drawn sends states rows flat_rows marks transitions =
    record {
      sends = entries sends;
      states = entries states;
      rows = entries rows;
      flat_rows = entries flat_rows;
      marks = values marks;
      transitions = entries transitions;
    }

-- the parts of a drawing that describe each kind of object
pub record ChartDrawing : Type 0 where
  pub states : List State
  pub rows : List Row
  pub sends : List Send

pub record FlatDrawing : Type 0 where
  pub rows : List FlatRow
  pub sends : List Send

pub record NetDrawing : Type 0 where
  pub transitions : List Transition
  pub marks : List ℕ
  pub sends : List Send

abbrev pub chart_in : Drawing → ChartDrawing
chart_in d = record { states = d.states; rows = d.rows; sends = d.sends }

abbrev pub flat_in : Drawing → FlatDrawing
flat_in d = record { rows = d.flat_rows; sends = d.sends }

abbrev pub net_in : Drawing → NetDrawing
net_in d = record { transitions = d.transitions; marks = d.marks; sends = d.sends }

abbrev pub chart_drawing : Chart → ChartDrawing
chart_drawing c = record { states = entries c.states; rows = entries c.rows; sends = entries c.sends }

abbrev pub flat_drawing : Flat → FlatDrawing
flat_drawing f = record { rows = entries f.rows; sends = entries f.sends }

abbrev pub net_drawing : Net → NetDrawing
net_drawing n = record { transitions = entries n.transitions; marks = values n.marks; sends = entries n.sends }

abbrev pub undrawn : Drawing
undrawn = record { sends = []; states = []; rows = []; flat_rows = []; marks = replicate 8 0; transitions = [] }

-- a drawing made of the part that a call answered, or the call's fault
abbrev pub made : {X : Type 0} → (X → Drawing) → Result X TableFault → Result Drawing TableFault
made f (Ok x) = Ok (f x)
made f (Err e) = Err e

-- 1 post to an object from 1 to 8, 2 publish with object 0, 3 recall with nothing but zeros
unfoldable pub send_of : ℕ → ℕ → ℕ → ℕ → Option Send
send_of kind object signal word =
    cond (kind == 1) (then_some (between 1 object 8 && between 1 signal 64) (Post object signal word))
    (cond (kind == 2) (then_some (object == 0 && between 1 signal 64) (Publish signal word))
    (cond (kind == 3) (then_some (object == 0 && (signal == 0 && word == 0)) Recall) None))

abbrev pub with_sends : Drawing → List Send → Drawing
with_sends d xs = record d { sends = xs }

unfoldable pub add_send : Drawing → ℕ → ℕ → ℕ → ℕ → Result Drawing TableFault
add_send d kind object signal word = made (with_sends d) (added 32 d.sends (send_of kind object signal word))

-- what a number names: 0 names nothing
abbrev pub named : ℕ → Option ℕ
named n = cond (n == 0) None (Some n)

-- the send that a number names, if it names one: another number than 0 is that of a declared send
abbrev pub send_number : Drawing → ℕ → Result (Option ℕ) TableFault
send_number d n = cond (nat_le n (length d.sends)) (Ok (named n)) (Err Value)

-- the number of a declared state
abbrev pub state_number : Drawing → ℕ → Option ℕ
state_number d n = then_some (between 1 n (length d.states)) n

-- the parent of a state: 0, the top, also for what is not declared
abbrev pub parent_in : Option State → ℕ
parent_in None = 0
parent_in (Some s) = s.parent

abbrev pub parent_of : List State → ℕ → ℕ
parent_of ss s = parent_in (numbered ss s)

-- n steps up from a state
abbrev pub up : List State → ℕ → ℕ → ℕ
up ss zero s = s
up ss (suc n) s = up ss n (parent_of ss s)

abbrev pub with_states : Drawing → List State → Drawing
with_states d xs = record d { states = xs }

-- the parent is the top or declared, and three steps up from it is the top: a chain has at most four states
unfoldable pub state_of : Drawing → ℕ → ℕ → ℕ → Option State
state_of d parent entry exit =
    then_some (nat_le parent (length d.states) && (up d.states 3 parent == 0 && (nat_le entry (length d.sends) && nat_le exit (length d.sends))))
    (record { parent = parent; entry = named entry; exit = named exit; initial = None })

unfoldable pub add_state : Drawing → ℕ → ℕ → ℕ → Result Drawing TableFault
add_state d parent entry exit = made (with_states d) (added 32 d.states (state_of d parent entry exit))

-- 0 always, 1 the first word equals the value, 2 it is below the value
abbrev pub guard_of : ℕ → ℕ → Option Guard
guard_of guard value = cond (guard == 0) (then_some (value == 0) Always) (cond (guard == 1) (Some (Is value)) (cond (guard == 2) (Some (Under value)) None))

-- the guard lets a row apply by the event's first word
abbrev pub lets : Guard → ℕ → Bool
lets Always word = true
lets (Is value) word = word == value
lets (Under value) word = nat_lt word value

-- the number of a state's send on a crossing of its border, if there is one
abbrev pub crossing_of : Crossing → State → Option ℕ
crossing_of Exit s = s.exit
crossing_of Entry s = s.entry

-- a proper descendant: one, two or three steps up from it is the state
abbrev pub descends : List State → ℕ → ℕ → Bool
descends ss s above = up ss 1 s == above || (up ss 2 s == above || up ss 3 s == above)

abbrev pub starting_at : ℕ → State → State
starting_at target s = record s { initial = Some target }

-- state and target are declared, and the target is a proper descendant of the state
unfoldable pub set_initial : Drawing → ℕ → ℕ → Result Drawing TableFault
set_initial d state target =
    cond (between 1 state (length d.states) && (nat_le target (length d.states) && descends d.states target state))
    (Ok (with_states d (changed d.states state (starting_at target))))
    (Err Value)

-- 0 moves to a declared target with a send, 1 stays with a send, 2 defers; what a kind leaves unused is 0
abbrev pub action_of : Drawing → ℕ → ℕ → ℕ → Option Action
action_of d kind target send =
    cond (kind == 0) (then_some (between 1 target (length d.states) && nat_le send (length d.sends)) (action.Move target (named send)))
    (cond (kind == 1) (then_some (target == 0 && nat_le send (length d.sends)) (action.Stay (named send)))
    (cond (kind == 2) (then_some (target == 0 && send == 0) action.Defer) None))

-- a row of a declared state and a signal
unfoldable pub row_of : Drawing → RowNumbers → Option Row
row_of d n =
    cond (between 1 n.state (length d.states) && between 1 n.signal 64)
    (option_map (λ (guard, action). record { state = n.state; signal = n.signal; guard = guard; action = action }) (option_zip (guard_of n.guard n.value) (action_of d n.kind n.target n.send)))
    None

abbrev pub with_rows : Drawing → List Row → Drawing
with_rows d xs = record d { rows = xs }

unfoldable pub add_row : Drawing → RowNumbers → Result Drawing TableFault
add_row d numbers = made (with_rows d) (added 64 d.rows (row_of d numbers))

-- 0 moves to a state from 1 to 16 with a send, 2 defers; a row that defers has zeros there
abbrev pub flat_action_of : Drawing → ℕ → ℕ → ℕ → Option FlatAction
flat_action_of d kind next send =
    cond (kind == 0) (then_some (between 1 next 16 && nat_le send (length d.sends)) (flat.Move next (named send)))
    (cond (kind == 2) (then_some (next == 0 && send == 0) flat.Defer) None)

unfoldable pub flat_row_of : Drawing → ℕ → ℕ → ℕ → ℕ → ℕ → Option FlatRow
flat_row_of d state signal kind next send =
    cond (between 1 state 16 && between 1 signal 64) (option_map (λ action. record { state = state; signal = signal; action = action }) (flat_action_of d kind next send)) None

abbrev pub with_flat_rows : Drawing → List FlatRow → Drawing
with_flat_rows d xs = record d { flat_rows = xs }

unfoldable pub add_flat_row : Drawing → ℕ → ℕ → ℕ → ℕ → ℕ → Result Drawing TableFault
add_flat_row d state signal kind next send = made (with_flat_rows d) (added 64 d.flat_rows (flat_row_of d state signal kind next send))

abbrev pub with_marks : Drawing → List ℕ → Drawing
with_marks d xs = record d { marks = xs }

abbrev pub set_marks : Drawing → ℕ → ℕ → Result Drawing TableFault
set_marks d place count = cond (between 1 place 8 && nat_le count 255) (Ok (with_marks d (replaced d.marks place count))) (Err Value)

abbrev pub with_transitions : Drawing → List Transition → Drawing
with_transitions d xs = record d { transitions = xs }

unfoldable pub transition_of : Drawing → ℕ → ℕ → Option Transition
transition_of d signal send = then_some (between 1 signal 64 && nat_le send (length d.sends)) (blank_transition signal (named send))

unfoldable pub add_transition : Drawing → ℕ → ℕ → Result Drawing TableFault
add_transition d signal send = made (with_transitions d) (added 8 d.transitions (transition_of d signal send))

abbrev pub with_arc : ℕ → ℕ → ℕ → Transition → Transition
with_arc place take give t = record t { takes = put t.takes place take; gives = put t.gives place give }

-- what a declared transition takes from a place and gives to it
unfoldable pub set_arc : Drawing → ℕ → ℕ → ℕ → ℕ → Result Drawing TableFault
set_arc d transition place take give =
    cond (between 1 transition (length d.transitions) && (between 1 place 8 && (nat_le take 255 && nat_le give 255)))
    (Ok (with_transitions d (changed d.transitions transition (with_arc place take give))))
    (Err Value)
