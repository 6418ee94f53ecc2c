-- What is printed for a scenario file.
use Rattle.std.specs.Prelude.{◌≡◌, ℕ, List, [], ◌∷◌, ◌++◌, map, Ok, Err, Result, ◌≢◌, codes}
use Rattle.kernel.specs.declared.layout.Pool.{Pool}
use Rattle.scenario.specs.Cell.{Cell}
use Rattle.scenario.specs.Faults.{fault_text}
use Rattle.scenario.specs.Files.{FileIs}
use Rattle.scenario.specs.Format.{written}
use Rattle.scenario.specs.declared.fault.Fault.{Fault}
use Rattle.scenario.specs.declared.listing.ListError.{ListError}
use Rattle.scenario.specs.declared.listing.ListError.TheVariants.{Script, Memory}

-- the fault as a line
abbrev pub fault_line : Fault → List ℕ
fault_line f = fault_text f ++ 10 ∷ []

-- each pool's frames, in the order of the pools
abbrev pub frame_counts : List Pool → List ℕ
frame_counts ps = map (λ p. p.count) ps

-- `z` and each pool's frames
abbrev pub frames_text : List Pool → List ℕ
frames_text ps = written 122 (frame_counts ps)

abbrev pub frames_line : List Pool → List ℕ
frames_line ps = frames_text ps ++ 10 ∷ []

-- the listing of a faulty file, and of a sound file with no script
abbrev pub Lists : Result Cell Fault → List ℕ → Type 0
Lists (Err f) text = text ≡ fault_line f
Lists (Ok c) text = (c.script ≡ []) × (text ≡ frames_line c.settings.plan.pools)

-- what is printed where there is no listing
abbrev pub list_error_text : ListError → List ℕ
list_error_text Script = codes "scripts are not run yet"
list_error_text Memory = codes "out of memory"

-- the text is the listing of what the file says
abbrev pub Listed : List ℕ → List ℕ → Type 0
Listed bytes text = (a : Result Cell Fault) × FileIs bytes a × Lists a text

-- there is no listing where the file is sound and has a script; want of memory says nothing of the file
abbrev pub Unlisted : List ℕ → ListError → Type 0
Unlisted bytes Script = (c : Cell) × FileIs bytes (Ok c) × (c.script ≢ [])
Unlisted bytes Memory = Unit {0}
