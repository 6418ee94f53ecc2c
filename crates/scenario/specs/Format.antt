-- How the lines of a scenario file are written.
use Rattle.std.specs.Prelude.{◌≡◌, ℕ, ◌≤◌, List, ◌∷◌, length, decimal}
use Rattle.std.specs.List.{flat_map, AllByRecursion}

-- each number behind one space
abbrev pub spaced : List ℕ → List ℕ
spaced ns = flat_map (λ n. 32 ∷ decimal n) ns

-- every number of a line is at most 65535
abbrev pub Numbers : List ℕ → Type 0
Numbers ns = AllByRecursion (λ n. n ≤ 65535) ns

-- a line is its letter, then its numbers
abbrev pub written : ℕ → List ℕ → List ℕ
written letter ns = letter ∷ spaced ns

-- bytes that are a line, of at most 80 bytes
pub record Spelt (bytes : List ℕ) (letter : ℕ) (ns : List ℕ) : Type 0 where
  pub short : length bytes ≤ 80
  pub numbers : Numbers ns
  pub text : bytes ≡ written letter ns

abbrev pub Misspelt : List ℕ → Type 0
Misspelt bytes = (letter : ℕ) (ns : List ℕ) → Spelt bytes letter ns → ⊥
