-- Slots are their values: that there are so many can be shown in one way only.
use Rattle.std.proofs.Common.{◌≡◌, ℕ, length, replicate}
use native.Mathlib.Nat.{ℕ_set}
use mathlib.Core.HLevel.{is_prop→PathP}
use Rattle.terms.specs.Entries.{values, replaced}
use Rattle.terms.specs.Slots.{filled, put}
use Rattle.terms.specs.declared.slots.Slots.{Slots}

module _ {T : Type 0} {N : ℕ} where
  pub same_slots : (s t : Slots T N) → values s ≡ values t → s ≡ t
  same_slots s t e i =
      record {
        values = e i;
        sized = is_prop→PathP (λ j. length (e j) ≡ N) (λ j. ℕ_set _ _) s.sized t.sized i;
      }

  pub filled_is : (s : Slots T N) (x : T) → values s ≡ replicate N x → s ≡ filled N x
  filled_is s x is = same_slots s (filled N x) is

  pub put_is : (s t : Slots T N) (n : ℕ) (x : T) → values t ≡ replaced (values s) n x → t ≡ put s n x
  put_is s t n x is = same_slots t (put s n x) is
