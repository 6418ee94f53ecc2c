-- What a hierarchical object does.
use Rattle.std.specs.Prelude.{ℕ, zero, suc, Bool, cond, ◌&&◌, List, [], ◌∷◌, ◌++◌, reverse, Some, None, Option, ◌==◌, find, flat_map}
use Rattle.std.specs.List.{list_any, before_first}
use Rattle.std.specs.Option.{unwrap_or, option_map_or, option_and_then}
use Rattle.terms.specs.Entries.{numbered}
use Rattle.terms.specs.declared.send.Send.{Send}
use Rattle.objects.specs.Crews.{Response, Rule, passing}
use Rattle.tables.specs.Drawing.{ChartDrawing, parent_of, lets, crossing_of}
use Rattle.objects.specs.Finding.{first_given}
use Rattle.objects.specs.Sending.{sends_of}
use Rattle.tables.specs.declared.chart.State.{State}
use Rattle.tables.specs.declared.chart.Row.{Row}
use Rattle.tables.specs.declared.chart.Action.{Action}
use Rattle.tables.specs.declared.chart.Action.TheVariants.{Move, Stay, Defer}
use Rattle.tables.specs.declared.chart.Crossing.{Crossing}
use Rattle.tables.specs.declared.chart.Crossing.TheVariants.{Exit, Entry}
use Rattle.objects.specs.declared.reaction.Verdict.TheVariants.{Handled, Deferred, Ignored}

-- at most k states, from s upward
abbrev pub climb : List State → ℕ → ℕ → List ℕ
climb ss zero s = []
climb ss (suc k) zero = []
climb ss (suc k) (suc n) = suc n ∷ climb ss k (parent_of ss (suc n))

-- the chain of a state: the state itself, its parent and so on up to the top, which is not counted
unfoldable pub chain : List State → ℕ → List ℕ
chain ss s = climb ss 4 s

-- the state is among the states of a chain
abbrev pub on_chain : ℕ → List ℕ → Bool
on_chain x ys = list_any (λ y. y == x) ys

-- the first word of an event, 0 if it has none
abbrev pub first_word : List ℕ → ℕ
first_word [] = 0
first_word (w ∷ ws) = w

-- the row stands in the state, has the signal, and applies
abbrev pub applies : ℕ → ℕ → ℕ → Row → Bool
applies state signal word r = r.state == state && (r.signal == signal && lets r.guard word)

-- the row that decides: of the first state on the way up that has a row that applies, the first such row
abbrev pub decides : List Row → List ℕ → ℕ → ℕ → Option Row
decides rows up signal word = first_given (λ s. find (applies s signal word) rows) up

-- the first state of one chain that is on the other too, or 0, the top
abbrev pub meeting : List ℕ → List ℕ → ℕ
meeting one other = unwrap_or (find (λ s. on_chain s other) one) 0

-- the state below which a move from s to t leaves and enters; 0 is the top
abbrev pub base_of : List State → ℕ → ℕ → ℕ
base_of ss s t = cond (s == t) (parent_of ss s) (meeting (chain ss s) (chain ss t))

-- the states of a chain below the base
abbrev pub below : ℕ → List ℕ → List ℕ
below base xs = before_first (λ x. x == base) xs

-- the initial target of a state, if it has one
abbrev pub initial_in : Option State → Option ℕ
initial_in state = option_and_then (λ s. s.initial) state

abbrev pub initial_of : List State → ℕ → Option ℕ
initial_of ss s = initial_in (numbered ss s)

-- where at most k initial targets lead from a state
abbrev pub settle : List State → ℕ → ℕ → ℕ
settle ss zero s = s
settle ss (suc k) s = option_map_or (settle ss k) (initial_of ss s) s

-- where one initial target leads, if there is one
abbrev pub led_on : List State → ℕ → ℕ
led_on ss s = settle ss 1 s

-- the state that a move to s reaches: a chain of four states has room for three initial targets
unfoldable pub reached : List State → ℕ → ℕ
reached ss s = settle ss 3 s

-- innermost first
abbrev pub left : List State → ℕ → ℕ → ℕ → List ℕ
left ss current s t = below (base_of ss s t) (chain ss current)

-- outermost first
abbrev pub entered : List State → ℕ → ℕ → List ℕ
entered ss s t = reverse (below (base_of ss s t) (chain ss (reached ss t)))

-- the number of a state's send on a crossing: none where there is no such state
abbrev pub crossing_in : Crossing → Option State → Option ℕ
crossing_in c state = option_and_then (crossing_of c) state

-- the sends of several states that are all left or all entered, in order
abbrev pub crossings : List State → List Send → Crossing → List ℕ → List Send
crossings ss sends c xs = flat_map (λ x. sends_of sends (crossing_in c (numbered ss x))) xs

-- the row's send, then those of the exits, then those of the entries
abbrev pub move_sends : List State → List Send → Option ℕ → List ℕ → List ℕ → List Send
move_sends ss sends send exits entries = (sends_of sends send ++ crossings ss sends Exit exits) ++ crossings ss sends Entry entries

-- what a row at s does with the current state
abbrev pub acts : List State → List Send → ℕ → Action → List ℕ → ℕ → Response
acts ss sends s (Move t send) before current =
    record { verdict = Handled; next = reached ss t ∷ []; sends = move_sends ss sends send (left ss current s t) (entered ss s t) }
acts ss sends s (Stay send) before current = record { verdict = Handled; next = before; sends = sends_of sends send }
acts ss sends s Defer before current = passing Deferred before

abbrev pub by_row : List State → List Send → Option Row → List ℕ → ℕ → Response
by_row ss sends None before current = passing Ignored before
by_row ss sends (Some r) before current = acts ss sends r.state r.action before current

-- the current state of an object that has one number as its state, 0 where there is none
abbrev pub current_in : List ℕ → ℕ
current_in [] = 0
current_in (s ∷ ss) = s

abbrev pub chart_rule : ChartDrawing → Rule
chart_rule d before e =
    by_row d.states d.sends (decides d.rows (chain d.states (current_in before)) e.signal (first_word e.words)) before (current_in before)

-- state 1 and its initial targets; with no states there is none to be in
abbrev pub start_in : List State → ℕ
start_in [] = 0
start_in (s ∷ ss) = reached (s ∷ ss) 1
