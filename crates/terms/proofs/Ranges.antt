-- Ranges as facts and as tests.
use Rattle.std.proofs.Common.{◌≡◌, ℕ, ◌≤◌, true, leb}
use Rattle.std.proofs.lemmas.Bool.{le-leb, leb-true, and_from, and_parts}
use Rattle.terms.specs.Ranges.{between}

pub between_true : (low n high : ℕ) → low ≤ n → n ≤ high → between low n high ≡ true
between_true low n high a b = and_from (leb low n) (leb n high) (le-leb low n a) (le-leb n high b)

pub between_bounds : (low n high : ℕ) → between low n high ≡ true → (low ≤ n) × (n ≤ high)
between_bounds low n high t =
    let both = and_parts (leb low n) (leb n high) t in
    (leb-true low n both.0, leb-true n high both.1)
