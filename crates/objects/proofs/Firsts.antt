-- What is found is the first that passes.
use Rattle.std.proofs.Common.{◌≡◌, ℕ, zero, suc, get_or, ◌<◌, length, ◌++◌, Bool, true, false, cond, ◌||◌, ◌⊎◌, is_some, List, [], ◌∷◌, find, Some, None, Option, sym, refl, ap, ◌∙◌, inl, inr, ⊎_elim, arith}
use Rattle.std.proofs.lemmas.Bool.{cond-true, cond-false, cases_Bool}
use Rattle.std.specs.List.{AllByRecursion, list_any}
use Rattle.std.specs.Option.{option_or, option_map, MatchOption}
use Rattle.objects.specs.Finding.{first_given, NoneOf, First}

-- something is found, or nothing
pub told : {X : Type 0} (o : Option X) → ((x : X) × (o ≡ Some x)) ⊎ (o ≡ None)
told None = inr refl
told (Some x) = inl (x, refl)

-- what holds of an answer, by what is found, holds of what it means
pub match_mapped : {X Y : Type 0} (f : X → Y) (o : Option X) (N : Type 0) (S : Y → Type 0) → MatchOption o N (λ x. S (f x)) → MatchOption (option_map f o) N S
match_mapped f None N S h = h
match_mapped f (Some x) N S h = h

module _ {X : Type 0} (p : X → Bool) where
  after_one : (x y : X) (xs : List X) → p x ≡ false → First p xs y → First p (x ∷ xs) y
  after_one x y xs out f =
      record {
        before = x ∷ f.before;
        after = f.after;
        stands = ap (λ l. x ∷ l) f.stands;
        passes = f.passes;
        earlier = (out, f.earlier);
      }

  -- what is found is the first that passes
  pub found_first : (xs : List X) (y : X) → find p xs ≡ Some y → First p xs y
  found_first [] y is = absurd (cc)
  found_first (x ∷ xs) y is =
      ⊎_elim
      (λ holds. let same : x ≡ y = let s : Some x ≡ Some y = sym (cond-true (p x) (Some x) (find p xs) holds) ∙ is in cc in
      record { before = []; after = xs; stands = ap (λ l. l ∷ xs) same; passes = ap p (sym same) ∙ holds; earlier = tt })
      (λ out. after_one x y xs out (found_first xs y (sym (cond-false (p x) (Some x) (find p xs) out) ∙ is)))
      (cases_Bool (p x))

  -- where nothing is found, nothing passes
  pub found_none : (xs : List X) → find p xs ≡ None → NoneOf p xs
  found_none [] is = tt
  found_none (x ∷ xs) is =
      ⊎_elim
      (λ holds. let s : Some x ≡ None = sym (cond-true (p x) (Some x) (find p xs) holds) ∙ is in absurd (cc))
      (λ out. (out, found_none xs (sym (cond-false (p x) (Some x) (find p xs) out) ∙ is)))
      (cases_Bool (p x))

  -- some item passes just where one is found
  pub any_found : (xs : List X) → list_any p xs ≡ is_some (find p xs)
  any_found [] = refl
  any_found (x ∷ xs) = elim (p x) as (λ b. (b || list_any p xs) ≡ is_some (cond b (Some x) (find p xs))) [ true ↦ refl | false ↦ any_found xs ]

module _ {X Y : Type 0} (h : X → Option Y) where
  module _ (d : X) where
    -- as a search tells it by places
    abbrev pub FirstGives : List X → Option Y → Type 0
    FirstGives xs r =
        MatchOption r ((k : ℕ) → k < length xs → h (get_or xs k d) ≡ None)
        (λ y. (i : ℕ) × (i < length xs) × (h (get_or xs i d) ≡ Some y) × ((k : ℕ) → k < i → h (get_or xs k d) ≡ None))

    given_nowhere : (xs : List X) → ((k : ℕ) → k < length xs → h (get_or xs k d) ≡ None) → None ≡ first_given h xs
    given_nowhere [] none = refl
    given_nowhere (x ∷ xs) none = rw (none 0 (omega arith)) (given_nowhere xs (λ k low. none (suc k) (omega arith)))

    given_at : (xs : List X) (i : ℕ) (y : Y) → i < length xs → h (get_or xs i d) ≡ Some y → ((k : ℕ) → k < i → h (get_or xs k d) ≡ None) → Some y ≡ first_given h xs
    given_at [] i y low is before = absurd (omega arith)
    given_at (x ∷ xs) zero y low is before = rw is refl
    given_at (x ∷ xs) (suc i) y low is before = rw (before 0 (omega arith)) (given_at xs i y (omega arith) is (λ k less. before (suc k) (omega arith)))

    pub found_given : (xs : List X) (r : Option Y) → FirstGives xs r → r ≡ first_given h xs
    found_given xs None told = given_nowhere xs told
    found_given xs (Some y) told = given_at xs told.0 y told.1 told.2 told.3

  -- an item that gives y, behind some that give nothing
  pub record Given (xs : List X) (y : Y) : Type 0 where
    pub before : List X
    pub chosen : X
    pub after : List X
    pub order : xs ≡ before ++ chosen ∷ after
    pub gives : h chosen ≡ Some y
    pub earlier : AllByRecursion (λ x. h x ≡ None) before

  -- what is given comes from such an item
  pub given : (xs : List X) (y : Y) → first_given h xs ≡ Some y → Given xs y
  given [] y is = absurd (cc)
  given (x ∷ xs) y is =
      ⊎_elim
      (λ some. record { before = []; chosen = x; after = xs; order = refl; gives = some.1 ∙ sym (ap (λ o. option_or o (first_given h xs)) some.1) ∙ is; earlier = tt })
      (λ none.
      let g = given xs y (sym (ap (λ o. option_or o (first_given h xs)) none) ∙ is) in
      record { before = x ∷ g.before; chosen = g.chosen; after = g.after; order = ap (λ l. x ∷ l) g.order; gives = g.gives; earlier = (none, g.earlier) })
      (told (h x))

  pub given_none : (xs : List X) → first_given h xs ≡ None → AllByRecursion (λ x. h x ≡ None) xs
  given_none [] is = tt
  given_none (x ∷ xs) is =
      ⊎_elim
      (λ some. let e : Some some.0 ≡ None = sym (ap (λ o. option_or o (first_given h xs)) some.1) ∙ is in absurd (cc))
      (λ none. (none, given_none xs (sym (ap (λ o. option_or o (first_given h xs)) none) ∙ is)))
      (told (h x))
