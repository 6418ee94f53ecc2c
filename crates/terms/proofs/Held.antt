-- What holds of numbered values after one was replaced, changed or added.
use Rattle.std.proofs.Common.{◌≡◌, ℕ, zero, suc, ◌≤◌, ◌⊎◌, List, [], ◌∷◌, ◌++◌, length, Some, refl, ap, inl, inr, ⊎_elim, arith}
use Rattle.std.specs.List.{AllByRecursion}
use Rattle.std.proofs.ByRecursion.{All-set}
use Rattle.std.proofs.lemmas.List.{length-take-le}
use Rattle.terms.specs.declared.table.Table.{Table}
use Rattle.terms.specs.Entries.{entries, numbered, replaced, changed}
pub use Rattle.terms.specs.Slots.{length-replaced}

module _ {T : Type 0} where
  pub length-changed : (xs : List T) (n : ℕ) (f : T → T) → length (changed xs n f) ≡ length xs
  length-changed xs zero f = refl
  length-changed [] (suc n) f = refl
  length-changed (x ∷ xs) (suc zero) f = refl
  length-changed (x ∷ xs) (suc (suc n)) f = ap suc (length-changed xs (suc n) f)

  -- the values before a last one keep their numbers
  pub numbered_push : (xs : List T) (x : T) (n : ℕ) → n ≤ length xs → numbered (xs ++ x ∷ []) n ≡ numbered xs n
  numbered_push xs x zero low = refl
  numbered_push [] x (suc n) low = absurd (omega arith)
  numbered_push (y ∷ ys) x (suc zero) low = refl
  numbered_push (y ∷ ys) x (suc (suc n)) low = numbered_push ys x (suc n) (omega arith)

  pub numbered_last : (xs : List T) (x : T) → numbered (xs ++ x ∷ []) (suc (length xs)) ≡ Some x
  numbered_last [] x = refl
  numbered_last (y ∷ ys) x = numbered_last ys x

  pub numbered_push_cases : (xs : List T) (x : T) (n : ℕ) (y : T) → numbered (xs ++ x ∷ []) n ≡ Some y → (numbered xs n ≡ Some y) ⊎ ((n ≡ suc (length xs)) × (x ≡ y))
  numbered_push_cases xs x zero y is = let z : ◌≡◌ {A = ℕ} 0 1 = cc in absurd (omega arith)
  numbered_push_cases [] x (suc zero) y is = inr (refl, (cc))
  numbered_push_cases [] x (suc (suc n)) y is = let z : ◌≡◌ {A = ℕ} 0 1 = cc in absurd (omega arith)
  numbered_push_cases (z ∷ zs) x (suc zero) y is = inl is
  numbered_push_cases (z ∷ zs) x (suc (suc n)) y is = ⊎_elim inl (λ h. inr (ap suc h.0, h.1)) (numbered_push_cases zs x (suc n) y is)

  -- a value after one was changed: as it was, or the one that was changed
  pub numbered-changed : (xs : List T) (n : ℕ) (f : T → T) (m : ℕ) (y : T) → numbered (changed xs n f) m ≡ Some y → (x : T) × (numbered xs m ≡ Some x) × ((x ≡ y) ⊎ ((n ≡ m) × (f x ≡ y)))
  numbered-changed xs zero f m y is = (y, is, inl refl)
  numbered-changed [] (suc n) f m y is = (y, is, inl refl)
  numbered-changed (x ∷ xs) (suc n) f zero y is = let z : ◌≡◌ {A = ℕ} 0 1 = cc in absurd (omega arith)
  numbered-changed (x ∷ xs) (suc zero) f (suc zero) y is = (x, refl, inr (refl, (cc)))
  numbered-changed (x ∷ xs) (suc zero) f (suc (suc m)) y is = (y, is, inl refl)
  numbered-changed (x ∷ xs) (suc (suc n)) f (suc zero) y is = (x, refl, inl (cc))
  numbered-changed (x ∷ xs) (suc (suc n)) f (suc (suc m)) y is =
      let h = numbered-changed xs (suc n) f (suc m) y is in
      (h.0, h.1, ⊎_elim inl (λ k. inr (ap suc k.0, k.1)) h.2)

  module _ (P : T → Type 0) where
    pub all_replaced : (xs : List T) (n : ℕ) (x : T) → P x → AllByRecursion P xs → AllByRecursion P (replaced xs n x)
    all_replaced xs zero x h all = all
    all_replaced xs (suc n) x h all = All-set P xs n x h all

    pub all_changed : (xs : List T) (n : ℕ) (f : T → T) → ((x : T) → P x → P (f x)) → AllByRecursion P xs → AllByRecursion P (changed xs n f)
    all_changed xs zero f keeps all = all
    all_changed [] (suc n) f keeps all = tt
    all_changed (x ∷ xs) (suc zero) f keeps all = (keeps x all.0, all.1)
    all_changed (x ∷ xs) (suc (suc n)) f keeps all = (all.0, all_changed xs (suc n) f keeps all.1)

-- a table has at most as many entries as places
pub few_entries : {T : Type 0} {N : ℕ} (t : Table T N) → length (entries t) ≤ N
few_entries t = let at = length-take-le t.len t.places (omega (arith, t.fits, t.sized)) in omega (arith, t.fits)
