-- The numbers of a line, one after the other.
use Rattle.std.specs.Prelude.{◌≡◌, ℕ, List, ◌≢◌}
use Rattle.scenario.specs.Format.{spaced, Numbers}

-- the text is these numbers, each behind one space, or no numbers at all
abbrev pub Spaces : List ℕ → List ℕ → Type 0
Spaces text ns = Numbers ns × (spaced ns ≡ text)

abbrev pub NoSpaces : List ℕ → Type 0
NoSpaces text = (ns : List ℕ) → Numbers ns → spaced ns ≢ text
