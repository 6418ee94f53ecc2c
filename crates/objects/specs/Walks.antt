-- How many sends a move has at most: the row's, and one for each state that is left or entered.
use Rattle.std.specs.Prelude.{ℕ, zero, suc, ◌≤◌, List, [], ◌∷◌, ◌++◌, reverse, length, Some, None, Option, ◌==◌}
use Rattle.std.proofs.Common.{arith}
use Rattle.std.proofs.lemmas.List.{length-append, length-reverse, length-take}
use Rattle.std.specs.Option.{option_to_list}
use Rattle.std.specs.List.{position_or_len}
use Rattle.terms.specs.Entries.{numbered}
use Rattle.terms.specs.declared.send.Send.{Send}
use Rattle.objects.specs.Charts.{climb, chain, below, decides, crossings, crossing_in, acts, by_row, left, entered, base_of, reached, chart_rule, current_in, first_word}
use Rattle.objects.specs.Crews.{Few}
use Rattle.objects.specs.Sending.{send_named, sends_of}
use Rattle.tables.specs.Drawing.{ChartDrawing, parent_of}
use Rattle.tables.specs.declared.chart.Action.{Action}
use Rattle.tables.specs.declared.chart.Action.TheVariants.{Move, Stay, Defer}
use Rattle.tables.specs.declared.chart.Crossing.{Crossing}
use Rattle.tables.specs.declared.chart.Crossing.TheVariants.{Exit, Entry}
use Rattle.tables.specs.declared.chart.Row.{Row}
use Rattle.tables.specs.declared.chart.State.{State}

-- at most one send for each state that is crossed
listed : {X : Type 0} (o : Option X) → length (option_to_list o) ≤ 1
listed None = omega arith
listed (Some x) = omega arith

pub one_send : (sends : List Send) (number : Option ℕ) → length (sends_of sends number) ≤ 1
one_send sends number = listed (send_named sends number)

pub few_crossings : (ss : List State) (sends : List Send) (c : Crossing) (xs : List ℕ) → length (crossings ss sends c xs) ≤ length xs
few_crossings ss sends c [] = omega arith
few_crossings ss sends c (x ∷ xs) =
    let one = one_send sends (crossing_in c (numbered ss x)) in
    let long = length-append (sends_of sends (crossing_in c (numbered ss x))) (crossings ss sends c xs) in
    let more = few_crossings ss sends c xs in
    omega arith

-- and no more than four states on a chain
few_climbed : (ss : List State) (k s : ℕ) → length (climb ss k s) ≤ k
few_climbed ss zero s = omega arith
few_climbed ss (suc k) zero = omega arith
few_climbed ss (suc k) (suc n) = let more = few_climbed ss k (parent_of ss (suc n)) in omega arith

pub few_chain : (ss : List State) (s : ℕ) → length (chain ss s) ≤ 4
unfolding chain
few_chain ss s = few_climbed ss 4 s

pub few_below : (base : ℕ) (xs : List ℕ) → length (below base xs) ≤ length xs
few_below base xs = rw (length-take (position_or_len (λ x. x == base) xs) xs) (omega arith)

few_left : (ss : List State) (base s : ℕ) → length (below base (chain ss s)) ≤ 4
few_left ss base s = let a = few_below base (chain ss s) in let b = few_chain ss s in omega arith

few_entered : (ss : List State) (base s : ℕ) → length (reverse (below base (chain ss s))) ≤ 4
few_entered ss base s = let same = length-reverse (below base (chain ss s)) in let a = few_left ss base s in omega arith

few_acts : (ss : List State) (sends : List Send) (s : ℕ) (a : Action) (before : List ℕ) (current : ℕ) → length (acts ss sends s a before current).sends ≤ 9
few_acts ss sends s (Move t send) before current =
    let exits = left ss current s t in
    let enters = entered ss s t in
    let one = one_send sends send in
    let out = few_crossings ss sends Exit exits in
    let into = few_crossings ss sends Entry enters in
    let long = length-append (sends_of sends send) (crossings ss sends Exit exits) in
    let longer = length-append (sends_of sends send ++ crossings ss sends Exit exits) (crossings ss sends Entry enters) in
    let some = few_left ss (base_of ss s t) current in
    let more = few_entered ss (base_of ss s t) (reached ss t) in
    omega arith
few_acts ss sends s (Stay send) before current = omega (arith, one_send sends send)
few_acts ss sends s Defer before current = omega arith

few_by : (ss : List State) (sends : List Send) (r : Option Row) (before : List ℕ) (current : ℕ) → length (by_row ss sends r before current).sends ≤ 9
few_by ss sends None before current = omega arith
few_by ss sends (Some r) before current = few_acts ss sends r.state r.action before current

-- at most nine sends: the row's, four exits' and four entries'
pub few_sent : (d : ChartDrawing) → Few (chart_rule d)
few_sent d before e =
    few_by d.states d.sends (decides d.rows (chain d.states (current_in before)) e.signal (first_word e.words)) before (current_in before)
