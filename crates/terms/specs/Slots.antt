-- Slots as whole values: all places alike, and another value in one place.
use Rattle.std.specs.Prelude.{◌≡◌, ℕ, zero, suc, List, length, replicate, refl}
use Rattle.std.proofs.Common.{◌∙◌, length-set}
use Rattle.std.proofs.lemmas.List.{length-replicate}
use Rattle.terms.specs.Entries.{replaced}
use Rattle.terms.specs.declared.slots.Slots.{Slots}

pub length-replaced : {T : Type 0} (xs : List T) (n : ℕ) (x : T) → length (replaced xs n x) ≡ length xs
length-replaced xs zero x = refl
length-replaced xs (suc n) x = length-set xs n x

-- N times the same value
abbrev pub filled : {T : Type 0} (N : ℕ) → T → Slots T N
filled N x = record { values = replicate N x; sized = length-replicate N x }

-- another value in the place of the one with a number, if there is one
abbrev pub put : {T : Type 0} {N : ℕ} → Slots T N → ℕ → T → Slots T N
put s n x = record { values = replaced s.values n x; sized = length-replaced s.values n x ∙ s.sized }
