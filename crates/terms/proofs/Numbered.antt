-- Reading, replacing and adding numbered values.
use Rattle.std.proofs.Common.{◌≡◌, ℕ, zero, suc, ◌-◌, ◌<◌, ◌≤◌, true, List, [], ◌∷◌, length, get_or, Some, None, sym, refl, ap, arith}
use Rattle.std.proofs.lemmas.Option.{slice_get-get_or}
use Rattle.terms.proofs.Ranges.{between_true}
use Rattle.terms.specs.Ranges.{between}
use Rattle.terms.specs.Entries.{numbered, replaced, changed}

pub numbered_in : {T : Type 0} (xs : List T) (n : ℕ) (d : T) → 0 < n → n ≤ length xs → numbered xs n ≡ Some (get_or xs (n - 1) d)
numbered_in xs zero d some low = absurd (omega arith)
numbered_in xs (suc n) d some low = let e : suc n - 1 ≡ n = omega arith in rw e (slice_get-get_or xs n d (omega arith))

-- a number has a value just where it lies between 1 and the count of the values
pub numbered_none : {T : Type 0} (xs : List T) (n : ℕ) → numbered xs n ≡ None → 0 < n → n ≤ length xs → ⊥
numbered_none xs zero none some low = omega arith
numbered_none [] (suc n) none some low = omega arith
numbered_none (x ∷ xs) (suc zero) none some low = let z : ◌≡◌ {A = ℕ} 0 1 = cc in omega arith
numbered_none (x ∷ xs) (suc (suc n)) none some low = numbered_none xs (suc n) none (omega arith) (omega arith)

pub numbered_some : {T : Type 0} (xs : List T) (n : ℕ) (x : T) → numbered xs n ≡ Some x → (0 < n) × (n ≤ length xs)
numbered_some xs zero x is = let z : ◌≡◌ {A = ℕ} 0 1 = cc in absurd (omega arith)
numbered_some [] (suc n) x is = let z : ◌≡◌ {A = ℕ} 0 1 = cc in absurd (omega arith)
numbered_some (y ∷ ys) (suc zero) x is = (omega arith, omega arith)
numbered_some (y ∷ ys) (suc (suc n)) x is = let h = numbered_some ys (suc n) x is in (omega arith, omega arith)

-- the same, as a test of the number
pub declared : {T : Type 0} (xs : List T) (n : ℕ) (x : T) → numbered xs n ≡ Some x → between 1 n (length xs) ≡ true
declared xs n x is = let place = numbered_some xs n x is in between_true 1 n (length xs) place.0 place.1

-- putting f of the value back in its place
pub replaced-changed : {T : Type 0} (xs : List T) (n : ℕ) (f : T → T) (x : T) → numbered xs n ≡ Some x → replaced xs n (f x) ≡ changed xs n f
replaced-changed xs zero f x is = refl
replaced-changed [] (suc n) f x is = refl
replaced-changed (y ∷ ys) (suc zero) f x is = let e : y ≡ x = cc in ap (λ z. f z ∷ ys) (sym e)
replaced-changed (y ∷ ys) (suc (suc n)) f x is = ap (λ zs. y ∷ zs) (replaced-changed ys (suc n) f x is)
