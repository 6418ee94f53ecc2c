-- Sets of objects as numbers: object o counts 2^(o - 1), for o from 1 to 8.
use Rattle.std.specs.Prelude.{ℕ, zero, suc, ◌/◌, ◌%◌, ◌^◌, Bool, false, cond, ◌&&◌, ◌==◌, bit_or, nat_lt}
use Rattle.terms.specs.declared.object_set.ObjectSet.{ObjectSet}

abbrev pub weight : ℕ → ℕ
weight zero = 0
weight (suc k) = cond (nat_lt k 8) (2 ^ k) 0

-- object o is in the set
abbrev pub member : ℕ → ℕ → Bool
member zero s = false
member (suc k) s = nat_lt k 8 && s / 2 ^ k % 2 == 1

-- the set with object o too
abbrev pub joins : ℕ → ObjectSet → ObjectSet
joins o s = record { bits = bit_or s.bits (weight o) }

-- the set as a number
abbrev pub bits_of : ObjectSet → ℕ
bits_of s = s.bits
