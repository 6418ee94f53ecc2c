-- How a scenario file is read, line after line.
use Rattle.std.specs.Prelude.{◌≡◌, ℕ, cond, ◌⊎◌, List, [], ◌∷◌, ◌++◌, map, Some, None, Ok, Err, vec_items, Option, Result, Vec, nat_le}
use Rattle.tables.specs.Drawing.{Drawing}
use Rattle.tables.specs.Tables.{drawing}
use Rattle.scenario.specs.Cell.{Settings, Cell, Order, setting_of, empty, order}
use Rattle.scenario.specs.Format.{Spelt, Misspelt}
use Rattle.scenario.specs.Lines.{misshapen, setup_line, table_line, script_line}
use Rattle.scenario.specs.Parts.{rank_of, part_of}
use Rattle.scenario.specs.declared.draft.Draft.{Draft}
use Rattle.scenario.specs.declared.fault.Cause.{Cause}
use Rattle.scenario.specs.declared.part.Part.{Part}
use Rattle.scenario.specs.declared.part.Part.TheVariants.{Setup, Tables, Script}
use Rattle.scenario.specs.declared.script.Command.{Command}

-- what the lines so far say, and the part that they have reached
pub record Page : Type 0 where
  pub part : Part
  pub cell : Cell

abbrev pub blank_page : Page
blank_page = record { part = Setup; cell = empty }

-- a draft with the script so far
abbrev pub drafted : Draft → List Order → Page
drafted d script = record { part = d.part; cell = record { settings = setting_of d.setting; drawing = drawing d.tables; script = script } }

abbrev pub page_of : {A : Type 0} → Draft → Vec Command A → Page
page_of d script = drafted d (map order (vec_items script))

-- what a line's answer leaves: a command goes to the end of the script
abbrev pub outcome : Draft → List Order → Result (Option Command) Cause → Result Page Cause
outcome d script (Ok None) = Ok (drafted d script)
outcome d script (Ok (Some c)) = Ok (drafted d (script ++ order c ∷ []))
outcome d script (Err f) = Err f

-- a page with one of its parts more
abbrev pub by_settings : Cell → Result Settings Cause → Result Page Cause
by_settings c (Ok s) = Ok (record { part = Setup; cell = record { settings = s; drawing = c.drawing; script = c.script } })
by_settings c (Err f) = Err f

abbrev pub by_drawing : Cell → Result Drawing Cause → Result Page Cause
by_drawing c (Ok d) = Ok (record { part = Tables; cell = record { settings = c.settings; drawing = d; script = c.script } })
by_drawing c (Err f) = Err f

abbrev pub by_order : Cell → Result Order Cause → Result Page Cause
by_order c (Ok o) = Ok (record { part = Script; cell = record { settings = c.settings; drawing = c.drawing; script = c.script ++ o ∷ [] } })
by_order c (Err f) = Err f

abbrev pub within : Part → Cell → ℕ → List ℕ → Result Page Cause
within Setup c l ns = by_settings c (setup_line c.settings l ns)
within Tables c l ns = by_drawing c (table_line c.drawing l ns)
within Script c l ns = by_order c (script_line c.settings.plan l ns)

-- a line belongs to the part of its letter; a part once left does not come again
abbrev pub in_part : Page → ℕ → List ℕ → Option Part → Result Page Cause
in_part s l ns None = misshapen
in_part s l ns (Some p) = cond (nat_le (rank_of s.part) (rank_of p)) (within p s.cell l ns) misshapen

-- what a letter and its numbers say after the lines so far
abbrev pub means : Page → ℕ → List ℕ → Result Page Cause
means s l ns = in_part s l ns (part_of l)

-- what bytes say as the next line: what the line that they spell says, and a fault of form where they spell none
abbrev pub LineIs : Page → List ℕ → Result Page Cause → Type 0
LineIs s bytes r = (Misspelt bytes × (r ≡ misshapen)) ⊎ ((l : ℕ) × (ns : List ℕ) × Spelt bytes l ns × (r ≡ means s l ns))
