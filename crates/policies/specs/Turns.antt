-- Going round from any turn meets every object, so that a set that is not empty has its member met.
use Rattle.std.specs.Prelude.{◌≡◌, ℕ, zero, suc, ◌/◌, ◌%◌, ◌^◌, ◌<◌, ◌≤◌, Bool, true, false, ◌&&◌, ◌||◌, List, [], ◌∷◌, ◌==◌, ◌≢◌, nat_eq, nat_lt, refl}
use Rattle.std.proofs.Common.{sym, ap, subst, ◌∙◌, ⊎_elim, arith}
use Rattle.std.proofs.Math.Nat.{zero-div}
use Rattle.std.proofs.lemmas.Bool.{and_parts, and_right, or_cases, eqb-true, cases_eq, cases_Bool, cond-true, cond-false}
use Rattle.terms.specs.Ranges.{between}
use Rattle.terms.specs.Sets.{member}
use Rattle.terms.proofs.Ranges.{between_bounds}
use Rattle.policies.specs.Picks.{every, onward, first_met, turn_in, met}
use Rattle.policies.specs.Highest.{at, sets, as_many}

-- from each turn up to n a member is met
abbrev turns_right : ℕ → ℕ → Bool
turns_right zero s = true
turns_right (suc n) s = member (first_met 8 (suc n) s) s && turns_right n s

right : ℕ → ℕ → Bool
right s x = s == 0 || turns_right 8 s

all_right : every right 0 sets ≡ true
unfolding right sets
all_right = refl

from_turn : (n s t : ℕ) → turns_right n s ≡ true → 1 ≤ t → t ≤ n → member (first_met 8 t s) s ≡ true
from_turn zero s t all low high = absurd (omega arith)
from_turn (suc n) s t all low high =
    let both = and_parts (member (first_met 8 (suc n) s) s) (turns_right n s) all in
    ⊎_elim (λ is. subst (λ (u : ℕ). member (first_met 8 u s) s ≡ true) (sym is) both.0) (λ other. from_turn n s t both.1 low (grind arith)) (cases_eq t (suc n))

turn_within : (m : List ℕ) → (1 ≤ turn_in m) × (turn_in m ≤ 8)
turn_within [] = (omega arith, omega arith)
turn_within (t ∷ ts) =
    ⊎_elim
    (λ is. let b = between_bounds 1 t 8 is in rw (cond-true (between 1 t 8) t 1 is) (b.0, b.1))
    (λ out. rw (cond-false (between 1 t 8) t 1 out) (omega arith, omega arith))
    (cases_Bool (between 1 t 8))

pub met_member : (m : List ℕ) (s : ℕ) → s < 256 → (s ≢ 0) → member (met m s) s ≡ true
unfolding right met
met_member m s under some =
    let w = turn_within m in
    ⊎_elim (λ none. absurd (some (eqb-true s 0 none))) (λ all. from_turn 8 s (turn_in m) all w.0 w.1) (or_cases (s == 0) (turns_right 8 s) (at right sets all_right s (subst (λ (n : ℕ). s < n) (sym as_many) under)))

-- nobody is a member of the empty set
member_empty : (o : ℕ) → member o 0 ≡ false
member_empty zero = refl
member_empty (suc k) = and_right (nat_lt k 8) (0 / 2 ^ k % 2 == 1) (ap (λ (n : ℕ). nat_eq (n % 2) 1) (zero-div (2 ^ k)))

met_none : (k o : ℕ) → first_met k o 0 ≡ 0
met_none zero o = refl
met_none (suc k) o = cond-false (member o 0) o (first_met k (onward o) 0) (member_empty o) ∙ met_none k (onward o)

pub met_empty : (m : List ℕ) → met m 0 ≡ 0
unfolding met
met_empty m = met_none 8 (turn_in m)
