-- Lines are read in their order: the first fault is the answer, and without one every line is sound.
use Rattle.std.proofs.Common.{◌≡◌, ℕ, ◌+◌, ◌⊎◌, List, [], ◌∷◌, ◌++◌, length, Ok, Err, sym, refl, ap, ◌∙◌, subst, inl, inr, arith}
use Rattle.scenario.specs.Cell.{Cell}
use Rattle.scenario.specs.Files.{Reads, FileIs, lines_of, file_fault}
use Rattle.scenario.specs.Law.{Sound, FirstFault, WholeAtFault, AllSound}
use Rattle.scenario.specs.Reading.{Page, LineIs, blank_page}
use Rattle.scenario.specs.declared.fault.Fault.{Fault}

-- a fault among lines of which the first has the number n
record Found (n : ℕ) (s : Page) (ls : List (List ℕ)) (f : Fault) : Type 0 where
  before : List (List ℕ)
  line : List ℕ
  after : List (List ℕ)
  page : Page
  lines : ls ≡ before ++ line ∷ after
  sound : Sound s before page
  fault : LineIs page line (Err f.cause)
  number : f.line ≡ length before + n

found : (n : ℕ) (s : Page) (ls : List (List ℕ)) (f : Fault) → Reads n s ls (Err f) → Found n s ls f
found n s [] f e = let z : ◌≡◌ {A = ℕ} 0 1 = cc in absurd (omega arith)
found n s (l ∷ ls) f (inl (t, is, more)) =
    let later = found (n + 1) t ls f more in
    record {
      before = l ∷ later.before;
      line = later.line;
      after = later.after;
      page = later.page;
      lines = ap (λ k. l ∷ k) later.lines;
      sound = (t, is, later.sound);
      fault = later.fault;
      number = omega (arith, later.number);
    }
found n s (l ∷ ls) f (inr (c, is, e)) =
    let same : f ≡ record { line = n; cause = c } = cc in
    record {
      before = [];
      line = l;
      after = ls;
      page = s;
      lines = refl;
      sound = refl;
      fault = subst (λ k. LineIs s l (Err k.cause)) (sym same) is;
      number = ap (λ k. k.line) same ∙ omega arith;
    }

reads_fault : (n : ℕ) (s : Page) (before : List (List ℕ)) (line : List ℕ) (after : List (List ℕ)) (page : Page) (f : Fault) → Sound s before page → LineIs page line (Err f.cause) → f.line ≡ length before + n → Reads n s (before ++ line ∷ after) (Err f)
reads_fault n s [] line after page f sound fault number =
    let at : f.line ≡ n = omega (arith, number) in
    inr (f.cause, subst (λ p. LineIs p line (Err f.cause)) (sym sound) fault, λ i. Err (record { line = at i; cause = f.cause }))
reads_fault n s (l ∷ before) line after page f (u, is, sound) fault number =
    inl (u, is, reads_fault (n + 1) u before line after page f sound fault (omega (arith, number)))

pub refused_first : (bytes : List ℕ) (f : Fault) → FileIs bytes (Err f) → WholeAtFault bytes f ⊎ FirstFault bytes f
refused_first bytes f (inl (w, fault, e)) = let same : f ≡ file_fault w = cc in inl (w, fault, same)
refused_first bytes f (inr (whole, reads)) =
    let first = found 1 blank_page (lines_of bytes) f reads in
    inr (record {
      before = first.before;
      line = first.line;
      after = first.after;
      page = first.page;
      whole = whole;
      lines = first.lines;
      sound = first.sound;
      fault = first.fault;
      number = first.number;
    })

pub first_refused : (bytes : List ℕ) (f : Fault) → WholeAtFault bytes f ⊎ FirstFault bytes f → FileIs bytes (Err f)
first_refused bytes f (inl (w, fault, same)) = inl (w, fault, ap Err same)
first_refused bytes f (inr first) =
    inr (first.whole, subst (λ ls. Reads 1 blank_page ls (Err f)) (sym first.lines) (reads_fault 1 blank_page first.before first.line first.after first.page f first.sound first.fault first.number))

sound_all : (n : ℕ) (s : Page) (ls : List (List ℕ)) (c : Cell) → Reads n s ls (Ok c) → (t : Page) × Sound s ls t × (c ≡ t.cell)
sound_all n s [] c e = let same : c ≡ s.cell = cc in (s, refl, same)
sound_all n s (l ∷ ls) c (inl (t, is, more)) = let later = sound_all (n + 1) t ls c more in (later.0, (t, is, later.1), later.2)
sound_all n s (l ∷ ls) c (inr (f, is, e)) = let z : ◌≡◌ {A = ℕ} 0 1 = cc in absurd (omega arith)

reads_all : (n : ℕ) (s : Page) (ls : List (List ℕ)) (t : Page) → Sound s ls t → Reads n s ls (Ok t.cell)
reads_all n s [] t same = ap (λ p. Ok p.cell) (sym same)
reads_all n s (l ∷ ls) t (u, is, sound) = inl (u, is, reads_all (n + 1) u ls t sound)

pub accepted_sound : (bytes : List ℕ) (c : Cell) → FileIs bytes (Ok c) → AllSound bytes c
accepted_sound bytes c (inl (w, fault, e)) = let z : ◌≡◌ {A = ℕ} 0 1 = cc in absurd (omega arith)
accepted_sound bytes c (inr (whole, reads)) =
    let all = sound_all 1 blank_page (lines_of bytes) c reads in
    record { page = all.0; whole = whole; sound = all.1; says = all.2 }

pub sound_accepted : (bytes : List ℕ) (c : Cell) → AllSound bytes c → FileIs bytes (Ok c)
sound_accepted bytes c all =
    inr (all.whole, subst (λ k. Reads 1 blank_page (lines_of bytes) (Ok k)) (sym all.says) (reads_all 1 blank_page (lines_of bytes) all.page all.sound))
