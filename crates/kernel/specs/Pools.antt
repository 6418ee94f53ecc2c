-- The pools of a kernel, in the order in which they were added.
use Rattle.std.specs.Prelude.{ℕ, ◌+◌, ◌≤◌, Bool, cond, ◌&&◌, List, [], ◌∷◌, Some, None, Option, nat_le, nat_lt, sum_by}
use Rattle.std.specs.Coded.{le_prop}
use Rattle.std.specs.List.{AllByRecursion, AllByRecursion-prop, list_any}
use Rattle.kernel.specs.declared.layout.Pool as the-pool

-- the frames of all pools
abbrev pub total : List the-pool.Pool → ℕ
total ps = sum_by (λ p. p.count) ps

-- the size of the last pool, which is the largest; 0 with no pool
abbrev pub largest : List the-pool.Pool → ℕ
largest [] = 0
largest (p ∷ []) = p.size
largest (p ∷ q ∷ ps) = largest (q ∷ ps)

-- some pool's frames hold so many words
abbrev pub some_holds : List the-pool.Pool → ℕ → Bool
some_holds ps n = list_any (λ p. nat_le n p.size) ps

-- no pool's frames hold more than eight words
abbrev pub Small : List the-pool.Pool → Type 0
Small ps = AllByRecursion (λ p. p.size ≤ 8) ps

pub Small-prop : (ps : List the-pool.Pool) → IsProp (Small ps)
Small-prop ps = AllByRecursion-prop (λ p. p.size ≤ 8) (λ p. le_prop) ps

-- a pool that may follow: larger than the one before and of at most 8 words, with at least one frame, and 64 in all
unfoldable pub next_pool : List the-pool.Pool → ℕ → ℕ → Option the-pool.Pool
next_pool ps size count =
    cond (nat_lt (largest ps) size && (nat_le size 8 && (nat_le 1 count && nat_le (total ps + count) 64))) (Some (record { size = size; count = count })) None
