-- Every file has an answer: bytes spell a line or none, and so on from line to line.
use Rattle.std.proofs.Common.{◌≡◌, ℕ, ◌+◌, ◌≤◌, ◌⊎◌, List, [], ◌∷◌, map, length, Ok, Err, decimal, Result, sym, refl, ap, ◌∙◌, inl, inr, ⊎_elim, arith}
use Rattle.std.proofs.lemmas.Bool.{cases_Bool, cases_lt, cases_eq, false≢true}
use Rattle.std.proofs.lemmas.Fmt.{digits_value-decimal}
use Rattle.std.proofs.lemmas.Slice.Eq.{bytes_eq-Decides}
use Rattle.std.specs.Str.{bytes_eq}
use Rattle.std.specs.Str.Parse.{digits_value}
use Rattle.scenario.specs.Cell.{Cell}
use Rattle.scenario.specs.Files.{file_fault, Reads, FileIs, lines_of, last_byte}
use Rattle.scenario.specs.Format.{Spelt, Misspelt}
use Rattle.scenario.specs.Lines.{misshapen}
use Rattle.scenario.specs.Reading.{Page, LineIs, means, blank_page}
use Rattle.scenario.proofs.Scanning.{Spaces, NoSpaces}
use Rattle.scenario.specs.declared.fault.Cause.{Cause}
use Rattle.scenario.specs.declared.fault.Fault.{Fault}
use Rattle.scenario.specs.declared.fault.FileFault.TheVariants.{TooLong, Unterminated}
use Rattle.scenario.proofs.Numerals.{own, Unwritten}
use Rattle.scenario.proofs.Scanned.{Read, parts_of, parts_of-spaced, read_from_spaced, spaces_from_read, no_spaces_from_first, misspelt_from_text, spelt_from_text}

-- bytes are a number's text, or no number's
numbered : (ds : List ℕ) → ((n : ℕ) × (n ≤ 65535) × (decimal n ≡ ds)) ⊎ Unwritten ds
numbered ds =
    let value = λ (n : ℕ) (small : n ≤ 65535) (is : decimal n ≡ ds). sym (ap (digits_value 10) is) ∙ digits_value-decimal own n (omega arith) in
    ⊎_elim
    (λ large. inr (λ n small is. omega (arith, value n small is)))
    (λ fits.
    ⊎_elim
    (λ same. inl (digits_value 10 ds, fits, (bytes_eq-Decides (decimal (digits_value 10 ds)) ds).0 same))
    (λ other. inr (λ n small is. false≢true (sym other ∙ (bytes_eq-Decides (decimal (digits_value 10 ds)) ds).1 (ap decimal (value n small is) ∙ is))))
    (cases_Bool (bytes_eq (decimal (digits_value 10 ds)) ds)))
    (cases_lt 65535 (digits_value 10 ds))

unnumbered : (part : List ℕ) (parts : List (List ℕ)) → Unwritten part → (ns : List ℕ) → Read ns (part ∷ parts) → ⊥
unnumbered part parts none [] read = let e = ap length read.texts in omega arith
unnumbered part parts none (n ∷ ns) read = let e = read.texts in let same : decimal n ≡ part = cc in none n read.small.0 same

unread : (part : List ℕ) (parts : List (List ℕ)) → ((ns : List ℕ) → Read ns parts → ⊥) → (ns : List ℕ) → Read ns (part ∷ parts) → ⊥
unread part parts none [] read = let e = ap length read.texts in omega arith
unread part parts none (n ∷ ns) read = let e = read.texts in let same : map decimal ns ≡ parts = cc in none ns (record { small = read.small.1; texts = same })

-- parts are the texts of numbers, or of no numbers
counted : (parts : List (List ℕ)) → ((ns : List ℕ) × Read ns parts) ⊎ ((ns : List ℕ) → Read ns parts → ⊥)
counted [] = inl ([], record { small = tt; texts = refl })
counted (part ∷ parts) =
    ⊎_elim
    (λ n.
    ⊎_elim
    (λ more. inl (n.0 ∷ more.0, record { small = (n.1, more.1.small); texts = (λ i. n.2 i ∷ more.1.texts i) }))
    (λ none. inr (λ ns read. unread part parts none ns read))
    (counted parts))
    (λ none. inr (λ ns read. unnumbered part parts none ns read))
    (numbered part)

-- a text is numbers, each behind one space, or no numbers are that text
split_cases : (text : List ℕ) (all : List (List ℕ)) → parts_of text ≡ all → ((ns : List ℕ) × Spaces text ns) ⊎ NoSpaces text
split_cases text [] cut = inr (λ ns small is. let e = ap length (sym (parts_of-spaced ns small) ∙ ap parts_of is ∙ cut) in omega arith)
split_cases text ([] ∷ parts) cut =
    ⊎_elim
    (λ read. inl (read.0, spaces_from_read cut read.0 read.1))
    (λ none. inr (λ ns small is. none ns (read_from_spaced cut ns small is)))
    (counted parts)
split_cases text ((b ∷ bs) ∷ parts) cut = inr (no_spaces_from_first text (b ∷ bs) parts cut (λ none. omega arith))

spelling : (bytes : List ℕ) → ((l : ℕ) × (ns : List ℕ) × Spelt bytes l ns) ⊎ Misspelt bytes
spelling [] = inr (λ l ns spelt. let e = ap length spelt.text in omega arith)
spelling (l ∷ text) =
    ⊎_elim
    (λ long. inr (λ k ms spelt. let s = spelt.short in omega arith))
    (λ short.
    ⊎_elim
    (λ read. inl (l, read.0, spelt_from_text (l ∷ text) l text read.0 (omega arith) refl read.1))
    (λ none. inr (misspelt_from_text (l ∷ text) l text refl none))
    (split_cases text (parts_of text) refl))
    (cases_lt 80 (length (l ∷ text)))

line_some : (s : Page) (bytes : List ℕ) → (r : Result Page Cause) × LineIs s bytes r
line_some s bytes =
    ⊎_elim (λ spelt. (means s spelt.0 spelt.1, inr (spelt.0, spelt.1, spelt.2, refl))) (λ none. (misshapen, inl (none, refl))) (spelling bytes)

-- with an answer to the lines that follow, whatever they follow
reads_next : (n : ℕ) (s : Page) (l : List ℕ) (ls : List (List ℕ)) (later : (t : Page) → (a : Result Cell Fault) × Reads (n + 1) t ls a) (r : Result Page Cause) → LineIs s l r → (a : Result Cell Fault) × Reads n s (l ∷ ls) a
reads_next n s l ls later (Ok t) is = let more = later t in (more.0, inl (t, is, more.1))
reads_next n s l ls later (Err f) is = (Err (record { line = n; cause = f }), inr (f, is, refl))

reads_some : (n : ℕ) (s : Page) (ls : List (List ℕ)) → (a : Result Cell Fault) × Reads n s ls a
reads_some n s [] = (Ok s.cell, refl)
reads_some n s (l ∷ ls) = let first = line_some s l in reads_next n s l ls (λ t. reads_some (n + 1) t ls) first.0 first.1

pub file_some : (bytes : List ℕ) → (a : Result Cell Fault) × FileIs bytes a
file_some bytes =
    ⊎_elim
    (λ long. (Err (file_fault TooLong), inl (TooLong, long, refl)))
    (λ short.
    ⊎_elim
    (λ ended. let r = reads_some 1 blank_page (lines_of bytes) in (r.0, inr (record { short = short; ended = ended }, r.1)))
    (λ cut. (Err (file_fault Unterminated), inl (Unterminated, (short, cut), refl)))
    (cases_eq (last_byte 10 bytes) 10))
    (cases_lt 32768 (length bytes))
