-- Going round one object at a time.
use Rattle.std.specs.Prelude.{◌≡◌, ℕ, suc, ◌+◌, ◌-◌, ◌<◌, ◌≤◌, true, false, [], ◌∷◌, refl}
use Rattle.std.proofs.Common.{ap, arith}
use Rattle.std.proofs.lemmas.Bool.{cond-true, cond-false}
use Rattle.terms.specs.Ranges.{between}
use Rattle.terms.specs.Sets.{member}
use Rattle.terms.proofs.Ranges.{between_true}
use Rattle.policies.specs.Picks.{onward, first_met, met}

-- a turn from 1 to 8 is where the first of eight is met
pub met_start : (t s : ℕ) → 1 ≤ t → t ≤ 8 → met (t ∷ []) s ≡ first_met (8 - 0) t s
unfolding met
met_start t s low high = ap (λ (u : ℕ). first_met 8 u s) (cond-true (between 1 t 8) t 1 (between_true 1 t 8 low high))

-- one object more was met, and is no member
pub met_more : (i o s : ℕ) → i < 8 → member o s ≡ false → first_met (8 - i) o s ≡ first_met (8 - (i + 1)) (onward o) s
met_more i o s under out = let e : 8 - i ≡ suc (8 - (i + 1)) = omega arith in rw e (cond-false (member o s) o (first_met (8 - (i + 1)) (onward o) s) out)

pub met_here : (i o s : ℕ) → i < 8 → member o s ≡ true → first_met (8 - i) o s ≡ o
met_here i o s under is = let e : 8 - i ≡ suc (8 - (i + 1)) = omega arith in rw e (cond-true (member o s) o (first_met (8 - (i + 1)) (onward o) s) is)

pub met_all : (i o s : ℕ) → 8 ≤ i → first_met (8 - i) o s ≡ 0
met_all i o s done = let e : 8 - i ≡ 0 = omega arith in rw e refl
