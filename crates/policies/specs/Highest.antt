-- The table of highest members: its rule is a test at each entry, computed once over all of them.
use Rattle.std.specs.Prelude.{◌≡◌, ℕ, zero, suc, ◌+◌, ◌<◌, Bool, true, ◌||◌, List, [], ◌∷◌, length, replicate, ◌==◌, ◌≢◌, slice_index, refl}
use Rattle.std.proofs.Common.{sym, subst, ◌∙◌, ⊎_elim, add-zero, zero-add, add-suc, suc-add, arith}
use Rattle.std.proofs.lemmas.Bool.{and_parts, or_cases, eqb-true}
use Rattle.terms.specs.Sets.{member}
use Rattle.policies.specs.Picks.{highest, every}

from : (f : ℕ → ℕ → Bool) (xs : List ℕ) (i : ℕ) → every f i xs ≡ true → (k : ℕ) → k < length xs → f (i + k) (slice_index xs k) ≡ true
from f [] i t k h = absurd (omega arith)
from f (x ∷ xs) i t zero h = subst (λ (m : ℕ). f m x ≡ true) (sym (add-zero i)) (and_parts (f i x) (every f (suc i) xs) t).0
from f (x ∷ xs) i t (suc k) h =
    subst (λ (m : ℕ). f m (slice_index xs k) ≡ true) (suc-add i k ∙ sym (add-suc i k)) (from f xs (suc i) (and_parts (f i x) (every f (suc i) xs) t).1 k (omega arith))

-- what holds of each entry of a table and its place
pub at : (f : ℕ → ℕ → Bool) (xs : List ℕ) → every f 0 xs ≡ true → (k : ℕ) → k < length xs → f k (slice_index xs k) ≡ true
at f xs t k h = subst (λ (m : ℕ). f m (slice_index xs k) ≡ true) (zero-add k) (from f xs 0 t k h)

-- all sets, by the places of a list of 256
unfoldable pub sets : List ℕ
sets = replicate 256 0

-- a set that is not empty has its highest member
right : ℕ → ℕ → Bool
right s x = s == 0 || member (highest s) s

all_right : every right 0 sets ≡ true
unfolding right sets highest
all_right = refl

pub as_many : length sets ≡ 256
unfolding sets
as_many = refl

pub member-highest : (s : ℕ) → s < 256 → (s ≢ 0) → member (highest s) s ≡ true
unfolding right
member-highest s under some =
    ⊎_elim (λ none. absurd (some (eqb-true s 0 none))) (λ is. is) (or_cases (s == 0) (member (highest s) s) (at right sets all_right s (subst (λ (n : ℕ). s < n) (sym as_many) under)))
