-- How far the lines of a file were read, one after the other.
use Rattle.std.proofs.Common.{◌≡◌, ℕ, ◌+◌, eqb, List, [], ◌∷◌, ◌++◌, length, drop, map, Some, None, Ok, Err, Option, sym, refl, ap, ◌∙◌, subst, inr, arith}
use Rattle.std.proofs.lemmas.Iterator.{YieldsList}
use Rattle.std.proofs.lemmas.Iterator.Consumers.{YieldsList-so_far, YieldsList-turn, YieldsList-end}
use Rattle.std.proofs.lemmas.List.{drop_more, length_push, map_push, take-append-drop}
use Rattle.std.specs.Iterator.{Yields}
use Rattle.std.specs.List.{slice_split}
use Rattle.scenario.specs.Files.{Whole, FileIs, Unless, lines_of}
use Rattle.scenario.specs.Law.{Sound}
use Rattle.scenario.specs.Reading.{Page, LineIs, blank_page}
use Rattle.scenario.specs.declared.fault.Fault.{Fault}
use Rattle.scenario.specs.declared.reader.ReadError.{ReadError}
use Rattle.scenario.specs.declared.reader.ReadError.TheVariants.{Faulty, Memory}
use Rattle.scenario.proofs.Feeds.{lines_of-feed, unfed_empty}
use Rattle.scenario.proofs.Order.{first_refused, sound_accepted}

-- the lines read, all of them sound, and what they say
pub record ReadSoFar (ls : List (List ℕ)) (lines : ℕ) (page : Page) : Type 0 where
  pub count : lines ≡ length ls
  pub sound : Sound blank_page ls page

-- a sound line behind sound lines
sound_push : (s t u : Page) (ls : List (List ℕ)) (l : List ℕ) → Sound s ls t → LineIs t l (Ok u) → Sound s (ls ++ l ∷ []) u
sound_push s t u [] l same is = (u, subst (λ p. LineIs p l (Ok u)) (sym same) is, refl)
sound_push s t u (k ∷ ks) l (v, first, sound) is = (v, first, sound_push v t u ks l sound is)

module _ {S A : Type 0} {steps : S → Option A → S → Type 0} {v : A → List ℕ} {s : S} (bytes : List ℕ) where
  -- an iterator over what stands before the last line feed yields the lines
  pub yields_lines : (text : List ℕ) → bytes ≡ text ++ 10 ∷ [] → YieldsList steps v s (slice_split (λ b. eqb b 10) text) → YieldsList steps v s (lines_of bytes)
  yields_lines text is e = subst (YieldsList steps v s) (sym (ap lines_of is ∙ lines_of-feed text)) e

  module _ (e : YieldsList steps v s (lines_of bytes)) (xs : List A) (t : S) (yields : Yields steps s xs t) {lines : ℕ} {page : Page} (sofar : ReadSoFar (map v xs) lines page) (r : Option A) (u : S) (step : steps t r u) where
    pub read_fault : Whole bytes → (x : A) → r ≡ Some x → (f : Fault) → f.line ≡ lines + 1 → LineIs page (v x) (Err f.cause) → FileIs bytes (Err f)
    read_fault whole x is f number fault =
        let n = length xs in
        let turn = YieldsList-turn e xs t yields r u x is step in
        let rest : drop n (lines_of bytes) ≡ v x ∷ drop (n + 1) (lines_of bytes) = drop_more (lines_of bytes) n (v x) turn.0 ∙ ap (λ l. l ∷ drop (n + 1) (lines_of bytes)) (sym turn.1) in
        first_refused bytes f
        (inr (record {
          before = map v xs;
          line = v x;
          after = drop (n + 1) (lines_of bytes);
          page = page;
          whole = whole;
          lines = sym (take-append-drop n (lines_of bytes)) ∙ (λ i. sym (YieldsList-so_far e xs t yields) i ++ rest i);
          sound = sofar.sound;
          fault = fault;
          number = omega (arith, number, sofar.count);
        }))

    pub read_end : Whole bytes → r ≡ None → FileIs bytes (Ok page.cell)
    read_end whole is =
        let end = YieldsList-end e xs t yields r u is step in
        sound_accepted bytes page.cell (record { page = page; whole = whole; sound = subst (λ ls. Sound blank_page ls page) end.0 sofar.sound; says = refl })

pub read_more : {A : Type 0} (v : A → List ℕ) (xs : List A) {lines : ℕ} {page : Page} → ReadSoFar (map v xs) lines page → (x : A) (after : Page) (count : ℕ) → LineIs page (v x) (Ok after) → count ≡ lines + 1 → ReadSoFar (map v (xs ++ x ∷ [])) count after
read_more v xs {lines} {page} sofar x after count is more =
    rw (map_push v xs x)
    (record { count = omega (arith, more, sofar.count, length_push (map v xs) (v x)); sound = sound_push blank_page page after (map v xs) (v x) sofar.sound is })

-- what follows from the fault that an error reports
pub unless_so : (e : ReadError) {P Q : Fault → Type 0} → Unless e P → ((f : Fault) → P f → Q f) → Unless e Q
unless_so Memory said so = tt
unless_so (Faulty f) said so = so f said

-- a file with no line feed is empty, and says a blank page
pub read_nothing : (bytes : List ℕ) → Whole bytes → ((front : List ℕ) → bytes ≡ front ++ 10 ∷ [] → ⊥) → FileIs bytes (Ok blank_page.cell)
read_nothing bytes whole other =
    let none = unfed_empty bytes whole.ended other in
    sound_accepted bytes blank_page.cell (record { page = blank_page; whole = whole; sound = subst (λ bs. Sound blank_page (lines_of bs) blank_page) (sym none) refl; says = refl })
