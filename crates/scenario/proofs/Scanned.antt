-- A text is numbers, each behind a space, where the parts between its spaces are: nothing, and then each number's text.
use Rattle.std.proofs.Common.{◌≡◌, ℕ, ◌*◌, ◌<◌, ◌≤◌, Bool, false, List, [], ◌∷◌, ◌++◌, Some, None, Ok, Err, Option, Result, map, length, get_or, eqb, decimal, sym, refl, ap, ◌∙◌, subst, append-nil, arith, length-append}
use Rattle.std.proofs.lemmas.Bool.{ne_eqb}
use Rattle.std.proofs.lemmas.Fmt.{decimal_nonempty, digits_decimal}
use Rattle.std.proofs.lemmas.Iterator.{YieldsList}
use Rattle.std.proofs.lemmas.Iterator.Consumers.{YieldsList-at, YieldsList-turn, YieldsList-end}
use Rattle.std.proofs.lemmas.List.{get_or-map, length-map, nil_from_length}
use Rattle.std.proofs.lemmas.Option.{none-some}
use Rattle.std.proofs.lemmas.List.Splits.{slice_split-cons_yes, slice_split-cons_no, join_with_byte-slice_split}
use Rattle.std.proofs.ByRecursion.{All-get_or}
use Rattle.std.specs.Iterator.{Yields}
use Rattle.std.specs.List.{AllByRecursion, join_with_byte, onto_first, slice_split}
use Rattle.std.specs.Result.{result_ok}
use Rattle.std.specs.Str.Parse.{AllDigits}
use Rattle.terms.specs.Calls.{Follows}
use Rattle.terms.specs.Entries.{added}
use Rattle.terms.specs.declared.table.TableFault.{TableFault}
use Rattle.terms.proofs.Added.{added_full}
use Rattle.scenario.proofs.Numerals.{own, Unwritten}
use Rattle.scenario.specs.Format.{spaced, Numbers, Spelt, Misspelt}
use Rattle.scenario.proofs.Scanning.{Spaces, NoSpaces}

-- elements that none cut belong to the first part
pub split_front : {X : Type 0} (p : X → Bool) (xs ys part : List X) (parts : List (List X)) → AllByRecursion (λ x. p x ≡ false) xs → slice_split p ys ≡ part ∷ parts → slice_split p (xs ++ ys) ≡ (xs ++ part) ∷ parts
split_front p [] ys part parts none is = is
split_front p (x ∷ xs) ys part parts none is = slice_split-cons_no p x (xs ++ ys) none.0 ∙ ap (onto_first x) (split_front p xs ys part parts none.1 is)

-- the parts between the spaces of a text
abbrev pub parts_of : List ℕ → List (List ℕ)
parts_of text = slice_split (λ b. eqb b 32) text

digits_unspaced : (ds : List ℕ) → AllDigits 10 ds → AllByRecursion (λ b. eqb b 32 ≡ false) ds
digits_unspaced [] all = tt
digits_unspaced (d ∷ ds) all = (ne_eqb d 32 (λ space. grind arith), digits_unspaced ds all.1)

-- numbers that were read, and the parts that they were read from
pub record Read (ns : List ℕ) (parts : List (List ℕ)) : Type 0 where
  pub small : Numbers ns
  pub texts : map decimal ns ≡ parts

pub parts_of-spaced : (ns : List ℕ) → Numbers ns → parts_of (spaced ns) ≡ [] ∷ map decimal ns
parts_of-spaced [] small = refl
parts_of-spaced (n ∷ ns) small =
    let digits = digits_unspaced (decimal n) (digits_decimal own n (omega (arith, small.0))) in
    let front = split_front (λ b. eqb b 32) (decimal n) (spaced ns) [] (map decimal ns) digits (parts_of-spaced ns small.1) in
    slice_split-cons_yes (λ b. eqb b 32) 32 (decimal n ++ spaced ns) refl ∙ ap (λ ps. [] ∷ ps) (front ∙ ap (λ ds. ds ∷ map decimal ns) (append-nil (decimal n)))

joined : (part : List ℕ) (ns : List ℕ) → join_with_byte 32 (part ∷ map decimal ns) ≡ part ++ spaced ns
joined part [] = sym (append-nil part)
joined part (n ∷ ns) = ap (λ t. part ++ 32 ∷ t) (joined (decimal n) ns)

-- however a text is read as numbers, it is from its parts
pub read_from_spaced : {text : List ℕ} {parts : List (List ℕ)} → parts_of text ≡ [] ∷ parts → (ns : List ℕ) → Numbers ns → spaced ns ≡ text → Read ns parts
read_from_spaced {text} {parts} cut ns small is =
    let e : [] ∷ map decimal ns ≡ [] ∷ parts = sym (parts_of-spaced ns small) ∙ ap parts_of is ∙ cut in
    record { small = small; texts = cc }

pub spaces_from_read : {text : List ℕ} {parts : List (List ℕ)} → parts_of text ≡ [] ∷ parts → (ns : List ℕ) → Read ns parts → Spaces text ns
spaces_from_read {text} cut ns read = (read.small, sym (joined [] ns) ∙ ap (λ ps. join_with_byte 32 ([] ∷ ps)) read.texts ∙ ap (join_with_byte 32) (sym cut) ∙ join_with_byte-slice_split 32 text)

-- a text that does not begin with a space, or has no part, is no numbers
pub no_spaces_from_first : (text first : List ℕ) (parts : List (List ℕ)) → parts_of text ≡ first ∷ parts → (length first ≡ 0 → ⊥) → NoSpaces text
no_spaces_from_first text first parts cut some ns small spells =
    let same : [] ∷ map decimal ns ≡ first ∷ parts = sym (parts_of-spaced ns small) ∙ ap parts_of spells ∙ cut in
    let empty : [] ≡ first = cc in
    some (ap length (sym empty))

decimals_long : (ns : List ℕ) → Numbers ns → 2 * length ns ≤ length (spaced ns)
decimals_long [] small = omega arith
decimals_long (n ∷ ns) small = omega (arith, decimals_long ns small.1, decimal_nonempty n (omega (arith, small.0)), length-append (decimal n) (spaced ns))

-- a line, from the text behind its letter
pub misspelt_from_text : (bytes : List ℕ) (letter : ℕ) (text : List ℕ) → bytes ≡ letter ∷ text → NoSpaces text → Misspelt bytes
misspelt_from_text bytes letter text is none l ns spelt =
    let e : letter ∷ text ≡ l ∷ spaced ns = sym is ∙ spelt.text in
    let same : spaced ns ≡ text = cc in
    none ns spelt.numbers same

pub spelt_from_text : (bytes : List ℕ) (letter : ℕ) (text ns : List ℕ) → length bytes ≤ 80 → bytes ≡ letter ∷ text → Spaces text ns → Spelt bytes letter ns
spelt_from_text bytes letter text ns short is spaces = record { short = short; numbers = spaces.0; text = is ∙ ap (λ t. letter ∷ t) (sym spaces.1) }

-- an iterator that yields the parts behind the first, which is empty
pub record Cut {S A : Type 0} (steps : S → Option A → S → Type 0) (v : A → List ℕ) (text : List ℕ) (s : S) : Type 0 where
  pub parts : List (List ℕ)
  pub are : parts_of text ≡ [] ∷ parts
  pub chain : YieldsList steps v s parts

module _ {S A : Type 0} {steps : S → Option A → S → Type 0} {v : A → List ℕ} where
  module _ (text : List ℕ) {s : S} (r : Option A) (t : S) (x : A) where
    behind : (all : List (List ℕ)) → YieldsList steps v s all → steps s r t → r ≡ Some x → (parts : List (List ℕ)) × (all ≡ v x ∷ parts) × YieldsList steps v t parts
    behind [] e step is = absurd (e.runs x t (subst (λ o. steps s o t) is step))
    behind (y ∷ ys) e step is = let h = e.runs.1 x t (subst (λ o. steps s o t) is step) in (ys, (λ i. sym h.0 i ∷ ys), record { runs = h.1 })

    pub cut_first : YieldsList steps v s (parts_of text) → steps s r t → r ≡ Some x → length (v x) ≡ 0 → (u : S) → u ≡ t → Cut steps v text u
    cut_first e step is none u same =
        let h = behind (parts_of text) e step is in
        record { parts = h.0; are = h.1 ∙ (λ i. nil_from_length (v x) none i ∷ h.0); chain = YieldsList-at same h.2 }

    -- a first part that is not empty
    pub not_cut : YieldsList steps v s (parts_of text) → steps s r t → r ≡ Some x → (length (v x) ≡ 0 → ⊥) → NoSpaces text
    not_cut e step is some =
        let h = behind (parts_of text) e step is in
        no_spaces_from_first text (v x) h.0 h.1 some

  module _ {text : List ℕ} {s : S} (cut : Cut steps v text s) (xs : List A) (t : S) (yields : Yields steps s xs t) {ns : List ℕ} (read : Read ns (map v xs)) (r : Option A) (u : S) (step : steps t r u) where
    count : length ns ≡ length xs
    count = sym (length-map ns decimal) ∙ ap length read.texts ∙ length-map xs v

    -- a part that is no number's text
    pub not_read : (x : A) → r ≡ Some x → Unwritten (v x) → NoSpaces text
    not_read x is none ms small spells =
        let all = (read_from_spaced cut.are ms small spells).texts in
        let turn = YieldsList-turn cut.chain xs t yields r u x is step in
        let under : length xs < length ms = omega (arith, turn.0, ap length all, length-map ms decimal) in
        none (get_or ms (length xs) 0) (All-get_or (λ n. n ≤ 65535) ms (length xs) 0 under small) (sym (get_or-map decimal ms (length xs) 0 (v x) under) ∙ ap (λ ps. get_or ps (length xs) (v x)) all ∙ sym turn.1)

    -- a number more than there is room for
    pub not_held : (x : A) → r ≡ Some x → length text ≤ 79 → 39 ≤ length ns → NoSpaces text
    not_held x is short full ms small spells =
        let all = (read_from_spaced cut.are ms small spells).texts in
        let turn = YieldsList-turn cut.chain xs t yields r u x is step in
        omega (arith, turn.0, count, ap length all, length-map ms decimal, decimals_long ms small, ap length spells)

    pub all_read : r ≡ None → Spaces text ns
    all_read is =
        let end = YieldsList-end cut.chain xs t yields r u is step in
        spaces_from_read cut.are ns (record { small = read.small; texts = read.texts ∙ end.0 })

-- where a push is refused, the table is full
pub full_from_push : {T : Type 0} (N : ℕ) (xs ys : List T) (x : T) {U : Type 0} (r : Result U TableFault) → Follows (added N xs (Some x)) r xs ys → result_ok r ≡ None → N ≤ length xs
full_from_push N xs ys x (Ok u) h is = absurd (none-some u (sym is))
full_from_push N xs ys x (Err f) h is = added_full N xs x f h.0
