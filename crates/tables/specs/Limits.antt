-- The limits of the tables of a cell.
use Rattle.std.specs.Prelude.{◌≡◌, ℕ, ◌<◌, ◌≤◌, true, List, length, IfSome, Some, Option}
use Rattle.std.specs.List.{AllByRecursion}
use Rattle.terms.specs.Entries.{numbered, values}
use Rattle.terms.specs.declared.send.Send.{Send}
use Rattle.terms.specs.declared.send.Send.TheVariants.{Post, Publish, Recall}
use Rattle.tables.specs.Drawing.{Drawing, ChartDrawing, chart_in, up, descends}
use Rattle.tables.specs.declared.net.Transition.{Transition}
use Rattle.tables.specs.declared.chart.State.{State}
use Rattle.tables.specs.declared.chart.Row.{Row}
use Rattle.tables.specs.declared.chart.Action.{Action}
use Rattle.tables.specs.declared.chart.Action.TheVariants as action
use Rattle.tables.specs.declared.flat.FlatRow.{FlatRow}
use Rattle.tables.specs.declared.flat.FlatAction.{FlatAction}
use Rattle.tables.specs.declared.flat.FlatAction.TheVariants as flat

abbrev pub From1To : ℕ → ℕ → Type 0
From1To high n = (1 ≤ n) × (n ≤ high)

-- a signal from 1 to 64, and a post's object from 1 to 8
abbrev pub SendWithin : Send → Type 0
SendWithin (Post object signal word) = From1To 8 object × From1To 64 signal
SendWithin (Publish signal word) = From1To 64 signal
SendWithin Recall = Unit {0}

-- a send is declared, if there is one
abbrev pub Declared : ℕ → Option ℕ → Type 0
Declared sends send = IfSome send (From1To sends)

-- state n of the chart: its parent was declared before it, its chain has at most four states, its sends are declared,
-- and its initial target, if it has one, is declared and a proper descendant
pub record StateWithin (sends : ℕ) (ss : List State) (n : ℕ) (s : State) : Type 0 where
  pub parent : s.parent < n
  pub chain : up ss 4 n ≡ 0
  pub entry : Declared sends s.entry
  pub exit : Declared sends s.exit
  pub initial : IfSome s.initial (λ target. From1To (length ss) target × (descends ss target n ≡ true))

-- each state of a chart
abbrev pub StatesWithin : ℕ → List State → Type 0
StatesWithin sends ss = (n : ℕ) (s : State) → numbered ss n ≡ Some s → StateWithin sends ss n s

-- a move's target is a declared state
abbrev pub ActionWithin : ℕ → ℕ → Action → Type 0
ActionWithin sends states (action.Move target send) = From1To states target × Declared sends send
ActionWithin sends states (action.Stay send) = Declared sends send
ActionWithin sends states action.Defer = Unit {0}

pub record RowWithin (sends states : ℕ) (r : Row) : Type 0 where
  pub state : From1To states r.state
  pub signal : From1To 64 r.signal
  pub action : ActionWithin sends states r.action

abbrev pub FlatActionWithin : ℕ → FlatAction → Type 0
FlatActionWithin sends (flat.Move next send) = From1To 16 next × Declared sends send
FlatActionWithin sends flat.Defer = Unit {0}

pub record FlatRowWithin (sends : ℕ) (r : FlatRow) : Type 0 where
  pub state : From1To 16 r.state
  pub signal : From1To 64 r.signal
  pub action : FlatActionWithin sends r.action

-- eight takes and eight gives, each at most 255
pub record TransitionWithin (sends : ℕ) (t : Transition) : Type 0 where
  pub signal : From1To 64 t.signal
  pub send : Declared sends t.send
  pub places : (length (values t.takes) ≡ 8) × (length (values t.gives) ≡ 8)
  pub takes : AllByRecursion (λ n. n ≤ 255) (values t.takes)
  pub gives : AllByRecursion (λ n. n ≤ 255) (values t.gives)

-- the limits of a chart by itself
pub record ChartWithin (c : ChartDrawing) : Type 0 where
  pub few_states : length c.states ≤ 32
  pub states : StatesWithin (length c.sends) c.states
  pub rows : AllByRecursion (RowWithin (length c.sends) (length c.states)) c.rows

pub record DrawingWithin (d : Drawing) : Type 0 where
  pub few_sends : length d.sends ≤ 32
  pub sends : AllByRecursion SendWithin d.sends
  pub chart : ChartWithin (chart_in d)
  pub few_rows : length d.rows ≤ 64
  pub few_flat_rows : length d.flat_rows ≤ 64
  pub flat_rows : AllByRecursion (FlatRowWithin (length d.sends)) d.flat_rows
  pub places : length d.marks ≡ 8
  pub marks : AllByRecursion (λ n. n ≤ 255) d.marks
  pub few_transitions : length d.transitions ≤ 8
  pub transitions : AllByRecursion (TransitionWithin (length d.sends)) d.transitions
