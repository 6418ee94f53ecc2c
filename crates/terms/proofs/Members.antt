-- Objects and their weights in a set.
use Rattle.std.proofs.Common.{◌≡◌, ℕ, zero, suc, ◌-◌, ◌^◌, ◌<◌, ◌≤◌, refl, arith}
use Rattle.std.proofs.lemmas.Bool.{lt-ltb}
use Rattle.terms.specs.Sets.{weight}

pub weight_in : (o : ℕ) → 0 < o → o ≤ 8 → weight o ≡ 2 ^ (o - 1)
weight_in zero some most = absurd (omega arith)
weight_in (suc k) some most = let e : suc k - 1 ≡ k = omega arith in rw (lt-ltb k 8 (omega arith), e) refl
