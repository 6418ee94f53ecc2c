-- The member of a set that each policy picks.
use Rattle.std.specs.Prelude.{ℕ, zero, suc, ◌+◌, Bool, true, cond, ◌&&◌, List, [], ◌∷◌, ◌==◌, nat_lt}
use Rattle.terms.specs.Ranges.{between}
use Rattle.terms.specs.Sets.{member}

-- the highest member that is at most n, 0 if there is none
abbrev pub highest_up_to : ℕ → ℕ → ℕ
highest_up_to zero s = 0
highest_up_to (suc n) s = cond (member (suc n) s) (suc n) (highest_up_to n s)

-- the highest member of a set, 0 for the empty set
unfoldable pub highest : ℕ → ℕ
highest s = highest_up_to 8 s

-- the test passes at each entry of a table and its place, counted from i
abbrev pub every : (ℕ → ℕ → Bool) → ℕ → List ℕ → Bool
every f i [] = true
every f i (x ∷ xs) = f i x && every f (suc i) xs

-- entry s of the table of highest members
abbrev pub is_highest : ℕ → ℕ → Bool
is_highest s x = x == highest_up_to 8 s

-- the number after an object's, with 1 after 8
abbrev pub onward : ℕ → ℕ
onward o = cond (nat_lt o 8) (o + 1) 1

-- the first member among the k objects met from o on, 0 if there is none
abbrev pub first_met : ℕ → ℕ → ℕ → ℕ
first_met zero o s = 0
first_met (suc k) o s = cond (member o s) o (first_met k (onward o) s)

-- the turn in a memory; what is no turn from 1 to 8 counts as the first
abbrev pub turn_in : List ℕ → ℕ
turn_in [] = 1
turn_in (t ∷ ts) = cond (between 1 t 8) t 1

-- the first member met from the turn on, all eight objects being met
unfoldable pub met : List ℕ → ℕ → ℕ
met m s = first_met 8 (turn_in m) s

-- the turn is the number after the pick; without a pick the memory stays
abbrev pub turned : List ℕ → ℕ → List ℕ
turned m zero = m
turned m (suc o) = onward (suc o) ∷ []
