-- Worked cases of charts, guards and policies.
use Rattle.std.specs.Prelude.{◌≡◌, ℕ, true, false, List, [], ◌∷◌, Some, None, Option}
use Rattle.objects.specs.Charts.{left, entered}
use Rattle.tables.specs.Drawing.{lets}
use Rattle.policies.specs.Picks.{highest, met, turned}
use Rattle.tables.specs.declared.chart.Guard.TheVariants.{Under}
use Rattle.tables.specs.declared.chart.State.{State}

abbrev pub inside : ℕ → Option ℕ → State
inside parent initial = record { parent = parent; entry = None; exit = None; initial = initial }

-- 1 (top, initial 2), 2 in 1, 3 in 1 (initial 4), 4 in 3, 5 (top)
abbrev pub five_states : List State
five_states = inside 0 (Some 2) ∷ inside 1 None ∷ inside 1 (Some 4) ∷ inside 3 None ∷ inside 0 None ∷ []

-- a row at s to t from the current state: the exits and the entries
abbrev pub Crosses : List State → ℕ → ℕ → ℕ → List ℕ → List ℕ → Type 0
Crosses ss current s t exits entries = (left ss current s t ≡ exits) × (entered ss s t ≡ entries)

pub record WorkedCases (ss : List State) : Type 0 where
  pub to_another_branch : Crosses ss 4 1 5 (4 ∷ 3 ∷ 1 ∷ []) (5 ∷ [])
  pub to_itself : Crosses ss 4 3 3 (4 ∷ 3 ∷ []) (3 ∷ 4 ∷ [])
  pub to_child : Crosses ss 2 1 3 (2 ∷ []) (3 ∷ 4 ∷ [])
  pub to_ancestor : Crosses ss 4 4 1 (4 ∷ 3 ∷ []) (2 ∷ [])
  pub guards : (lets (Under 10) 10 ≡ false) × (lets (Under 11) 10 ≡ true)
  pub highest_member : highest 41 ≡ 6
  pub rotating_turn : (met (2 ∷ []) 5 ≡ 3) × (turned (2 ∷ []) (met (2 ∷ []) 5) ≡ 4 ∷ [])
