-- What it means that a scenario file is read, or refused.
use Rattle.std.specs.Prelude.{◌≡◌, ℕ, ◌+◌, ◌⊎◌, List, [], ◌∷◌, ◌++◌, length, Ok, Err, Result, ◌≢◌}
use Rattle.std.specs.List.{flat_map, AllByRecursion}
use Rattle.scenario.specs.Cell.{Cell}
use Rattle.scenario.specs.Files.{Whole, WholeFault, file_fault, lines_of, FileIs}
use Rattle.scenario.specs.Limits.{CellWithin}
use Rattle.scenario.specs.Reading.{Page, LineIs, blank_page}
use Rattle.scenario.specs.declared.fault.Fault.{Fault}
use Rattle.scenario.specs.declared.fault.FileFault.{FileFault}

-- every line is sound, one after the other, and they lead from the page s to the page t
abbrev pub Sound : Page → List (List ℕ) → Page → Type 0
Sound s [] t = s ≡ t
Sound s (l ∷ ls) t = (u : Page) × LineIs s l (Ok u) × Sound u ls t

-- a line at fault, and all lines before it sound
pub record FirstFault (bytes : List ℕ) (f : Fault) : Type 0 where
  pub before : List (List ℕ)
  pub line : List ℕ
  pub after : List (List ℕ)
  pub page : Page
  pub whole : Whole bytes
  pub lines : lines_of bytes ≡ before ++ line ∷ after
  pub sound : Sound blank_page before page
  pub fault : LineIs page line (Err f.cause)
  pub number : f.line ≡ length before + 1

-- the file as a whole is at fault
abbrev pub WholeAtFault : List ℕ → Fault → Type 0
WholeAtFault bytes f = (w : FileFault) × WholeFault bytes w × (f ≡ file_fault w)

-- every line is sound, and together they say the cell c
pub record AllSound (bytes : List ℕ) (c : Cell) : Type 0 where
  pub page : Page
  pub whole : Whole bytes
  pub sound : Sound blank_page (lines_of bytes) page
  pub says : c ≡ page.cell

pub record Law (bytes : List ℕ) : Type 0 where
  -- the lines, with a line feed behind each, are the file, and no line has one inside
  pub lines : Whole bytes → flat_map (λ l. l ++ 10 ∷ []) (lines_of bytes) ≡ bytes
  pub unbroken : AllByRecursion (λ l. AllByRecursion (λ b. b ≢ 10) l) (lines_of bytes)
  -- a file has an answer, and one only
  pub some : (a : Result Cell Fault) × FileIs bytes a
  pub one : (a b : Result Cell Fault) → FileIs bytes a → FileIs bytes b → a ≡ b
  -- it is refused exactly when the file as a whole or some line is at fault, and then for the first
  pub refused : (f : Fault) → FileIs bytes (Err f) → WholeAtFault bytes f ⊎ FirstFault bytes f
  pub faulty : (f : Fault) → WholeAtFault bytes f ⊎ FirstFault bytes f → FileIs bytes (Err f)
  -- it is read exactly when every line is sound
  pub accepted : (c : Cell) → FileIs bytes (Ok c) → AllSound bytes c
  pub sound : (c : Cell) → AllSound bytes c → FileIs bytes (Ok c)
  -- and what is read keeps every limit
  pub limits : (c : Cell) → FileIs bytes (Ok c) → CellWithin c
