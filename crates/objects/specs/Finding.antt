-- The first of several that gives something, and the first that passes a test.
use Rattle.std.specs.Prelude.{◌≡◌, Bool, true, false, List, [], ◌∷◌, ◌++◌, None, Option}
use Rattle.std.specs.Option.{option_or}
use Rattle.std.specs.List.{AllByRecursion}

-- what f gives for the first item for which it gives something
abbrev pub first_given : {X Y : Type 0} → (X → Option Y) → List X → Option Y
first_given f [] = None
first_given f (x ∷ xs) = option_or (f x) (first_given f xs)

-- none of them passes
abbrev pub NoneOf : {X : Type 0} → (X → Bool) → List X → Type 0
NoneOf p xs = AllByRecursion (λ x. p x ≡ false) xs

-- x passes, and none of those before it does
pub record First {X : Type 0} (p : X → Bool) (xs : List X) (x : X) : Type 0 where
  pub before : List X
  pub after : List X
  pub stands : xs ≡ before ++ x ∷ after
  pub passes : p x ≡ true
  pub earlier : NoneOf p before
