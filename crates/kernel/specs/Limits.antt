-- The limits of a set-up.
use Rattle.std.specs.Prelude.{◌≡◌, ℕ, ◌^◌, ◌<◌, ◌≤◌, List, [], ◌∷◌, length}
use Rattle.std.specs.List.{AllByRecursion}
use Rattle.terms.specs.declared.object_set.ObjectSet.{ObjectSet}
use Rattle.kernel.specs.Plan.{Plan}
use Rattle.kernel.specs.Pools.{total}
use Rattle.kernel.specs.declared.layout.Pool.{Pool}
use Rattle.kernel.specs.declared.layout.Lengths.{Lengths}

-- a pool: frames of 1 to 8 words, at least one frame
pub record PoolWithin (p : Pool) : Type 0 where
  pub least : 1 ≤ p.size
  pub most : p.size ≤ 8
  pub some : 1 ≤ p.count

-- sizes rise strictly from pool to pool
abbrev pub Rising : List Pool → Type 0
Rising [] = Unit {0}
Rising (p ∷ []) = Unit {0}
Rising (p ∷ q ∷ ps) = (p.size < q.size) × Rising (q ∷ ps)

-- a queue of 1 to 16 places, a deferral queue of 0 to 8
pub record LengthsWithin (l : Lengths) : Type 0 where
  pub least : 1 ≤ l.queue
  pub most : l.queue ≤ 16
  pub deferral : l.deferral ≤ 8

-- no other object than 1 to n is in the set
abbrev pub Among : ℕ → ObjectSet → Type 0
Among n s = s.bits < 2 ^ n

pub record PlanWithin (p : Plan) : Type 0 where
  pub objects : p.objects ≤ 8
  pub few : length p.pools ≤ 3
  pub pools : AllByRecursion PoolWithin p.pools
  pub rising : Rising p.pools
  pub frames : total p.pools ≤ 64
  pub queues : length p.lengths ≡ 8
  pub lengths : AllByRecursion LengthsWithin p.lengths
  pub signals : length p.subscribers ≡ 64
  pub subscribers : AllByRecursion (Among p.objects) p.subscribers
