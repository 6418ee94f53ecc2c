-- Each set-up call keeps the plan's limits and its objects.
use Rattle.std.proofs.Common.{◌≡◌, ℕ, ◌-◌, ◌<◌, ◌≤◌, List, [], ◌∷◌, ◌++◌, Ok, arith}
use Rattle.std.proofs.lemmas.Nat.{or_lt, pow_below, pow_pos}
use Rattle.std.proofs.ByRecursion.{All-push}
use Rattle.std.proofs.lemmas.List.{length_push}
use Rattle.std.proofs.lemmas.List.Sums.{sum_by_push}
use Rattle.std.proofs.lemmas.Bool.Decides.{nat_tests}
use Rattle.terms.specs.Sets.{weight, joins}
use Rattle.terms.specs.declared.object_set.ObjectSet.{ObjectSet}
use Rattle.terms.proofs.Held.{length-replaced, length-changed, all_replaced, all_changed}
use Rattle.terms.proofs.Members.{weight_in}
use Rattle.kernel.specs.Limits.{PlanWithin, PoolWithin, Rising, LengthsWithin, Among}
use Rattle.kernel.specs.Plan.{Plan, blank, add_pool, set_lengths, subscribed}
use Rattle.kernel.specs.Pools.{next_pool, largest}
use Rattle.kernel.specs.declared.layout.Pool.{Pool}
use Rattle.kernel.specs.declared.layout.Lengths.{Lengths}

pub blank_within : (n : ℕ) → n ≤ 8 → PlanWithin (blank n)
blank_within n few =
    let some = pow_pos n in
    grind arith

-- sizes rise to a larger last pool
rising_push : (ps : List Pool) (p : Pool) → Rising ps → largest ps < p.size → Rising (ps ++ p ∷ [])
rising_push [] p rises larger = tt
rising_push (q ∷ []) p rises larger = (larger, tt)
rising_push (q ∷ r ∷ ps) p rises larger = (rises.0, rising_push (r ∷ ps) p rises.1 larger)

pub pool_kept : (p q : Plan) (size count : ℕ) → add_pool p size count ≡ Ok q → PlanWithin p → PlanWithin q
unfolding next_pool
pool_kept p q size count is w =
    let new : Pool = record { size = size; count = count } in
    let few = length_push p.pools new in
    let pools = All-push PoolWithin p.pools new w.pools (grind (arith, nat_tests)) in
    let rising = rising_push p.pools new w.rising (grind (arith, nat_tests)) in
    let frames = sum_by_push (λ (q : Pool). q.count) p.pools new in
    grind (arith, nat_tests)

pub objects_kept_by_pool : (p q : Plan) (size count : ℕ) → add_pool p size count ≡ Ok q → q.objects ≡ p.objects
unfolding next_pool
objects_kept_by_pool p q size count is = grind (arith, nat_tests)

pub lengths_kept : (p q : Plan) (object queue deferral : ℕ) → set_lengths p object queue deferral ≡ Ok q → PlanWithin p → PlanWithin q
lengths_kept p q object queue deferral is w =
    let new : Lengths = record { queue = queue; deferral = deferral } in
    let queues = length-replaced p.lengths object new in
    let lengths = all_replaced LengthsWithin p.lengths object new (grind (arith, nat_tests)) w.lengths in
    grind (arith, nat_tests)

pub objects_kept_by_lengths : (p q : Plan) (object queue deferral : ℕ) → set_lengths p object queue deferral ≡ Ok q → q.objects ≡ p.objects
objects_kept_by_lengths p q object queue deferral is = grind (arith, nat_tests)

-- an object from 1 to n joins a set of such objects
joins_among : (n o : ℕ) → 1 ≤ o → o ≤ n → n ≤ 8 → (s : ObjectSet) → Among n s → Among n (joins o s)
joins_among n o least most few s within =
    or_lt n s.bits (weight o) within (rw (weight_in o least (omega arith)) (pow_below (o - 1) n (omega arith)))

pub subscribed_kept : (p q : Plan) (object signal : ℕ) → subscribed p object signal ≡ Ok q → PlanWithin p → PlanWithin q
subscribed_kept p q object signal is w =
    let signals = length-changed p.subscribers signal (joins object) in
    let keeps = joins_among p.objects object (grind (arith, nat_tests)) (grind (arith, nat_tests)) w.objects in
    let subscribers = all_changed (Among p.objects) p.subscribers signal (joins object) keeps w.subscribers in
    grind (arith, nat_tests)

pub objects_kept_by_subscribed : (p q : Plan) (object signal : ℕ) → subscribed p object signal ≡ Ok q → q.objects ≡ p.objects
objects_kept_by_subscribed p q object signal is = grind (arith, nat_tests)
