-- The parts of a scenario file: set-up, then tables, then the script.
use Rattle.std.specs.Prelude.{ℕ, Bool, cond, ◌||◌, Some, None, Option, ◌==◌}
use Rattle.scenario.specs.declared.part.Part.{Part}
use Rattle.scenario.specs.declared.part.Part.TheVariants.{Setup, Tables, Script}

abbrev pub rank_of : Part → ℕ
rank_of Setup = 1
rank_of Tables = 2
rank_of Script = 3

-- P Q S W
unfoldable pub setup_letter : ℕ → Bool
setup_letter l = l == 80 || (l == 81 || (l == 83 || l == 87))

-- D H I R F N T A
unfoldable pub table_letter : ℕ → Bool
table_letter l = l == 68 || (l == 72 || (l == 73 || (l == 82 || (l == 70 || (l == 78 || (l == 84 || l == 65))))))

-- p f b r g
unfoldable pub script_letter : ℕ → Bool
script_letter l = l == 112 || (l == 102 || (l == 98 || (l == 114 || l == 103)))

abbrev pub part_of : ℕ → Option Part
part_of l = cond (setup_letter l) (Some Setup) (cond (table_letter l) (Some Tables) (cond (script_letter l) (Some Script) None))
