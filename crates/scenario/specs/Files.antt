-- What a whole scenario file says, from its bytes.
use Rattle.std.specs.Prelude.{◌≡◌, ℕ, ◌+◌, ◌<◌, ◌≤◌, cond, ◌⊎◌, List, [], ◌∷◌, ◌++◌, map, length, Ok, Err, vec_items, Result, ◌==◌, ◌≢◌, codes}
use Rattle.tables.specs.Tables.{drawing}
use Rattle.scenario.specs.Cell.{Cell, setting_of, order}
use Rattle.scenario.specs.Faults.{fault_text}
use Rattle.scenario.specs.Reading.{Page, LineIs, blank_page}
use Rattle.scenario.specs.declared.fault.Cause.{Cause}
use Rattle.scenario.specs.declared.fault.Cause.TheVariants as cause
use Rattle.scenario.specs.declared.fault.Fault.{Fault}
use Rattle.scenario.specs.declared.fault.FileFault.{FileFault}
use Rattle.scenario.specs.declared.fault.FileFault.TheVariants.{TooLong, Unterminated}
use Rattle.scenario.specs.declared.reader.Scenario.{Scenario}
use Rattle.scenario.specs.declared.reader.ReadError.{ReadError}
use Rattle.scenario.specs.declared.reader.ReadError.TheVariants.{Faulty, Memory}

-- the last byte of a file, and b where it has none
abbrev pub last_byte : ℕ → List ℕ → ℕ
last_byte b [] = b
last_byte b (c ∷ cs) = last_byte c cs

-- at most 32,768 bytes, empty or with a last line feed
pub record Whole (bytes : List ℕ) : Type 0 where
  pub short : length bytes ≤ 32768
  pub ended : last_byte 10 bytes ≡ 10

-- the fault of the file as a whole; its length comes first
abbrev pub WholeFault : List ℕ → FileFault → Type 0
WholeFault bytes TooLong = 32768 < length bytes
WholeFault bytes Unterminated = (length bytes ≤ 32768) × (last_byte 10 bytes ≢ 10)

-- it is reported for line 0
abbrev pub file_fault : FileFault → Fault
file_fault f = record { line = 0; cause = cause.File f }

-- the lines of the bytes that follow, where `line` is the start of the first: a line feed ends each
abbrev pub lines_from : List ℕ → List ℕ → List (List ℕ)
lines_from line [] = []
lines_from line (b ∷ bs) = cond (b == 10) (line ∷ lines_from [] bs) (lines_from (line ++ b ∷ []) bs)

abbrev pub lines_of : List ℕ → List (List ℕ)
lines_of bytes = lines_from [] bytes

-- what lines say after a page, the first of them having the number n: the cell, or the first fault with its line
abbrev pub Reads : ℕ → Page → List (List ℕ) → Result Cell Fault → Type 0
Reads n s [] a = a ≡ Ok s.cell
Reads n s (l ∷ ls) a = ((t : Page) × LineIs s l (Ok t) × Reads (n + 1) t ls a) ⊎ ((f : Cause) × LineIs s l (Err f) × (a ≡ Err (record { line = n; cause = f })))

-- what a file says: a fault of the file as a whole comes before any line
abbrev pub FileIs : List ℕ → Result Cell Fault → Type 0
FileIs bytes a = ((f : FileFault) × WholeFault bytes f × (a ≡ Err (file_fault f))) ⊎ (Whole bytes × Reads 1 blank_page (lines_of bytes) a)

-- a fact about the fault that an error reports; want of memory says nothing of the file
abbrev pub Unless : ReadError → (Fault → Type 0) → Type 0
Unless Memory P = Unit {0}
Unless (Faulty f) P = P f

-- what is printed of an error: the fault as it prints itself
abbrev pub read_error_text : ReadError → List ℕ
read_error_text (Faulty f) = fault_text f
read_error_text Memory = codes "out of memory"

-- the cell that a scenario describes
abbrev pub cell_of : Scenario → Cell
cell_of s = record { settings = setting_of s.setting; drawing = drawing s.tables; script = map order (vec_items s.script) }

-- an answer of the reader is what the file says
abbrev pub Told : List ℕ → Result Scenario ReadError → Type 0
Told bytes (Ok s) = FileIs bytes (Ok (cell_of s))
Told bytes (Err e) = Unless e (λ f. FileIs bytes (Err f))
