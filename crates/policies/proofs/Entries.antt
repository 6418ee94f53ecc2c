-- The table of highest members, entry by entry.
use Rattle.std.specs.Prelude.{◌≡◌, ℕ, ◌<◌, true, List, length, slice_index}
use Rattle.std.proofs.Common.{sym, subst}
use Rattle.std.proofs.lemmas.Bool.{eqb-true}
use Rattle.policies.specs.Picks.{highest, every, is_highest}
use Rattle.policies.specs.Highest.{at}

-- the rule of a table at one of its entries
pub entry_highest : (table : List ℕ) → length table ≡ 256 → every is_highest 0 table ≡ true → (s : ℕ) → s < 256 → slice_index table s ≡ highest s
unfolding highest
entry_highest table long rule s under = eqb-true (slice_index table s) (highest s) (at is_highest table rule s (subst (λ (n : ℕ). s < n) (sym long) under))
