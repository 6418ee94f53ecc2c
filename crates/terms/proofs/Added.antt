-- What is known after an entry was added, or refused.
use Rattle.std.proofs.Common.{◌≡◌, ℕ, ◌≤◌, ◌⊎◌, inl, inr, Bool, true, false, cond, ltb, List, [], ◌∷◌, ◌++◌, length, Some, Ok, Err, Result, sym, refl, arith}
use Rattle.std.proofs.lemmas.Bool.{ltb-false}
use Rattle.terms.specs.Calls.{Follows}
use Rattle.terms.specs.Entries.{added, last_of}
use Rattle.terms.specs.declared.table.TableFault.{TableFault}
use Rattle.terms.specs.declared.table.TableFault.TheVariants.{Full}

module _ {T : Type 0} where
  last_of_lem : (b : Bool) (xs ys : List T) (x : T) → cond b (last_of xs (Some x)) (Err Full) ≡ Ok ys → ys ≡ xs ++ x ∷ []
  last_of_lem true xs ys x is = let e : xs ++ x ∷ [] ≡ ys = cc in sym e
  last_of_lem false xs ys x is = let z : ◌≡◌ {A = ℕ} 0 1 = cc in absurd (omega arith)

  pub added_last : (N : ℕ) (xs ys : List T) (x : T) → added N xs (Some x) ≡ Ok ys → ys ≡ xs ++ x ∷ []
  added_last N xs ys x is = last_of_lem (ltb (length xs) N) xs ys x is

  crowded : (b : Bool) (xs : List T) (x : T) (f : TableFault) → cond b (last_of xs (Some x)) (Err Full) ≡ Err f → b ≡ false
  crowded true xs x f is = let z : ◌≡◌ {A = ℕ} 0 1 = cc in absurd (omega arith)
  crowded false xs x f is = refl

  pub added_full : (N : ℕ) (xs : List T) (x : T) (f : TableFault) → added N xs (Some x) ≡ Err f → N ≤ length xs
  added_full N xs x f is = ltb-false (length xs) N (crowded (ltb (length xs) N) xs x f is)

-- what a test let pass
pub ok_passed : {A F : Type 0} (b : Bool) (r : Result A F) (f : F) (y : A) → cond b r (Err f) ≡ Ok y → (b ≡ true) × (r ≡ Ok y)
ok_passed true r f y is = (refl, is)
ok_passed false r f y is = let z : ◌≡◌ {A = ℕ} 0 1 = cc in absurd (omega arith)

-- after a call that adds an entry, the entries have it at their end, or are as they were
pub added_or_not : {T U : Type 0} (N : ℕ) (xs ys : List T) (x : T) (r : Result U TableFault) → Follows (added N xs (Some x)) r xs ys → (ys ≡ xs ++ x ∷ []) ⊎ (ys ≡ xs)
added_or_not N xs ys x (Ok u) is = inl (added_last N xs ys x is)
added_or_not N xs ys x (Err f) is = inr is.1
