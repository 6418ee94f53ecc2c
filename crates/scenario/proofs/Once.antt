-- A file has one answer: its bytes spell each line in one way.
use Rattle.std.proofs.Common.{◌≡◌, ℕ, ◌+◌, List, [], ◌∷◌, map, length, Ok, Err, decimal, Result, sym, refl, ap, ◌∙◌, subst, inl, inr, arith}
use Rattle.std.proofs.lemmas.Fmt.{decimal_injective}
use Rattle.scenario.specs.Cell.{Cell}
use Rattle.scenario.specs.Files.{Whole, WholeFault, file_fault, Reads, FileIs, lines_of}
use Rattle.scenario.specs.Format.{spaced, Numbers, Spelt}
use Rattle.scenario.specs.Reading.{Page, LineIs, means, blank_page}
use Rattle.scenario.specs.declared.fault.Cause.{Cause}
use Rattle.scenario.specs.declared.fault.Fault.{Fault}
use Rattle.scenario.specs.declared.fault.FileFault.{FileFault}
use Rattle.scenario.specs.declared.fault.FileFault.TheVariants.{TooLong, Unterminated}
use Rattle.scenario.proofs.Scanned.{parts_of-spaced, read_from_spaced}

decimals_once : (ns ms : List ℕ) → Numbers ns → Numbers ms → map decimal ns ≡ map decimal ms → ns ≡ ms
decimals_once [] [] hn hm e = refl
decimals_once [] (m ∷ ms) hn hm e = absurd (omega (arith, ap length e))
decimals_once (n ∷ ns) [] hn hm e = absurd (omega (arith, ap length e))
decimals_once (n ∷ ns) (m ∷ ms) hn hm e =
    let first : decimal n ≡ decimal m = cc in
    let more : map decimal ns ≡ map decimal ms = cc in
    let same = decimal_injective n m (omega (arith, hn.0)) (omega (arith, hm.0)) first in
    let rest = decimals_once ns ms hn.1 hm.1 more in
    λ i. same i ∷ rest i

spaced_once : (ns ms : List ℕ) → Numbers ns → Numbers ms → spaced ns ≡ spaced ms → ns ≡ ms
spaced_once ns ms hn hm e = decimals_once ns ms hn hm (read_from_spaced (parts_of-spaced ms hm) ns hn e).texts

-- bytes spell at most one line
pub spelt_once : (bytes : List ℕ) (l k : ℕ) (ns ms : List ℕ) → Spelt bytes l ns → Spelt bytes k ms → (l ≡ k) × (ns ≡ ms)
spelt_once bytes l k ns ms a b =
    let e : l ∷ spaced ns ≡ k ∷ spaced ms = sym a.text ∙ b.text in
    let h : l ≡ k = cc in
    let t : spaced ns ≡ spaced ms = cc in
    (h, spaced_once ns ms a.numbers b.numbers t)

pub line_once : (s : Page) (bytes : List ℕ) (a b : Result Page Cause) → LineIs s bytes a → LineIs s bytes b → a ≡ b
line_once s bytes a b (inl (no-a, e)) (inl (no-b, f)) = e ∙ sym f
line_once s bytes a b (inl (no-a, e)) (inr (k, ms, spelt, f)) = absurd (no-a k ms spelt)
line_once s bytes a b (inr (l, ns, spelt, e)) (inl (no-b, f)) = absurd (no-b l ns spelt)
line_once s bytes a b (inr (l, ns, x, e)) (inr (k, ms, y, f)) =
    let same = spelt_once bytes l k ns ms x y in
    e ∙ (λ i. means s (same.0 i) (same.1 i)) ∙ sym f

reads_once : (n : ℕ) (s : Page) (ls : List (List ℕ)) (a b : Result Cell Fault) → Reads n s ls a → Reads n s ls b → a ≡ b
reads_once n s [] a b e f = e ∙ sym f
reads_once n s (l ∷ ls) a b (inl (t, x, more)) (inl (u, y, also)) =
    let tu : t ≡ u = (let o = line_once s l (Ok t) (Ok u) x y in cc) in
    reads_once (n + 1) u ls a b (subst (λ p. Reads (n + 1) p ls a) tu more) also
reads_once n s (l ∷ ls) a b (inl (t, x, more)) (inr (g, y, f)) = let o = line_once s l (Ok t) (Err g) x y in let z : ◌≡◌ {A = ℕ} 0 1 = cc in absurd (omega arith)
reads_once n s (l ∷ ls) a b (inr (g, x, e)) (inl (u, y, also)) = let o = line_once s l (Err g) (Ok u) x y in let z : ◌≡◌ {A = ℕ} 0 1 = cc in absurd (omega arith)
reads_once n s (l ∷ ls) a b (inr (g, x, e)) (inr (h, y, f)) =
    let o = line_once s l (Err g) (Err h) x y in
    let gh : g ≡ h = cc in
    e ∙ ap (λ k. Err (record { line = n; cause = k })) gh ∙ sym f

whole_once : (bytes : List ℕ) (f g : FileFault) → WholeFault bytes f → WholeFault bytes g → f ≡ g
whole_once bytes TooLong TooLong a b = refl
whole_once bytes TooLong Unterminated a b = absurd (omega (arith, a, b.0))
whole_once bytes Unterminated TooLong a b = absurd (omega (arith, a.0, b))
whole_once bytes Unterminated Unterminated a b = refl

whole_not : (bytes : List ℕ) (f : FileFault) → Whole bytes → WholeFault bytes f → ⊥
whole_not bytes TooLong w fault = omega (arith, w.short, fault)
whole_not bytes Unterminated w fault = fault.1 w.ended

pub file_once : (bytes : List ℕ) (a b : Result Cell Fault) → FileIs bytes a → FileIs bytes b → a ≡ b
file_once bytes a b (inl (f, x, e)) (inl (g, y, h)) = e ∙ ap (λ k. Err (file_fault k)) (whole_once bytes f g x y) ∙ sym h
file_once bytes a b (inl (f, x, e)) (inr (w, reads)) = absurd (whole_not bytes f w x)
file_once bytes a b (inr (w, reads)) (inl (g, y, h)) = absurd (whole_not bytes g w y)
file_once bytes a b (inr (w, reads)) (inr (v, also)) = reads_once 1 blank_page (lines_of bytes) a b reads also
