-- The lines of a file are what stands between its line feeds, and a line feed is its last byte.
use Rattle.std.proofs.Common.{◌≡◌, ℕ, suc, ◌-◌, ◌<◌, eqb, List, [], ◌∷◌, ◌++◌, length, get_or, sym, refl, ap, ◌∙◌, append_assoc, append-nil, arith}
use Rattle.std.proofs.ByRecursion.{All-push}
use Rattle.std.proofs.lemmas.Bool.{cond_both, eqb-true, eqb-false}
use Rattle.std.proofs.lemmas.List.Splits.{length-slice_split, slice_split-cons_yes, slice_split-cons_no}
use Rattle.std.specs.List.{flat_map, onto_first, slice_split, AllByRecursion}
use Rattle.scenario.specs.Files.{last_byte, lines_from, lines_of}

-- a line feed stands behind each
abbrev fed : List (List ℕ) → List ℕ
fed ls = flat_map (λ l. l ++ 10 ∷ []) ls

-- a line feed is the last byte, or there is nothing left and no line has begun
abbrev Closed : List ℕ → List ℕ → Type 0
Closed line [] = line ≡ []
Closed line (b ∷ bs) = last_byte b bs ≡ 10

closed_next : (line bs : List ℕ) (b : ℕ) → (b ≡ 10 → ⊥) → last_byte b bs ≡ 10 → Closed line bs
closed_next line [] b other last = absurd (other last)
closed_next line (c ∷ cs) b other last = last

closed_new : (bs : List ℕ) (b : ℕ) → last_byte b bs ≡ 10 → Closed [] bs
closed_new [] b last = refl
closed_new (c ∷ cs) b last = last

fed_from : (line bs : List ℕ) → Closed line bs → fed (lines_from line bs) ≡ line ++ bs
fed_from line [] none = sym (append-nil line ∙ none)
fed_from line (b ∷ bs) last =
    cond_both (eqb b 10) (line ∷ lines_from [] bs) (lines_from (line ++ b ∷ []) bs) (λ ls. fed ls ≡ line ++ b ∷ bs)
    (λ feed. append_assoc line (10 ∷ []) (fed (lines_from [] bs)) ∙ ap (λ l. line ++ 10 ∷ l) (fed_from [] bs (closed_new bs b last)) ∙ ap (λ c. line ++ c ∷ bs) (sym (eqb-true b 10 feed)))
    (λ other. fed_from (line ++ b ∷ []) bs (closed_next (line ++ b ∷ []) bs b (eqb-false b 10 other) last) ∙ append_assoc line (b ∷ []) bs)

pub lines_fed : (bytes : List ℕ) → last_byte 10 bytes ≡ 10 → fed (lines_of bytes) ≡ bytes
lines_fed [] last = refl
lines_fed (b ∷ bs) last = fed_from [] (b ∷ bs) last

abbrev Unfed : List ℕ → Type 0
Unfed l = AllByRecursion (λ b. b ≡ 10 → ⊥) l

unfed_from : (line bs : List ℕ) → Unfed line → AllByRecursion Unfed (lines_from line bs)
unfed_from line [] none = tt
unfed_from line (b ∷ bs) none =
    cond_both (eqb b 10) (line ∷ lines_from [] bs) (lines_from (line ++ b ∷ []) bs) (AllByRecursion Unfed)
    (λ feed. (none, unfed_from [] bs tt))
    (λ other. unfed_from (line ++ b ∷ []) bs (All-push (λ c. c ≡ 10 → ⊥) line b none (eqb-false b 10 other)))

pub lines_unfed : (bytes : List ℕ) → AllByRecursion Unfed (lines_of bytes)
lines_unfed bytes = unfed_from [] bytes tt

-- a first line with more in front
abbrev begun : List ℕ → List (List ℕ) → List (List ℕ)
begun line [] = []
begun line (l ∷ ls) = (line ++ l) ∷ ls

begun-onto_first : (line : List ℕ) (b : ℕ) (ls : List (List ℕ)) → 0 < length ls → begun (line ++ b ∷ []) ls ≡ begun line (onto_first b ls)
begun-onto_first line b [] some = absurd (omega arith)
begun-onto_first line b (l ∷ ls) some = ap (λ k. k ∷ ls) (append_assoc line (b ∷ []) l)

begun-nil : (ls : List (List ℕ)) → begun [] ls ≡ ls
begun-nil [] = refl
begun-nil (l ∷ ls) = refl

split_from : (line text : List ℕ) → lines_from line (text ++ 10 ∷ []) ≡ begun line (slice_split (λ b. eqb b 10) text)
split_from line [] = ap (λ l. l ∷ []) (sym (append-nil line))
split_from line (b ∷ bs) =
    let more = length-slice_split (λ c. eqb c 10) bs in
    cond_both (eqb b 10) (line ∷ lines_from [] (bs ++ 10 ∷ [])) (lines_from (line ++ b ∷ []) (bs ++ 10 ∷ [])) (λ ls. ls ≡ begun line (slice_split (λ c. eqb c 10) (b ∷ bs)))
    (λ feed. (λ i. sym (append-nil line) i ∷ (split_from [] bs ∙ begun-nil (slice_split (λ c. eqb c 10) bs)) i) ∙ ap (begun line) (sym (slice_split-cons_yes (λ c. eqb c 10) b bs feed)))
    (λ other. split_from (line ++ b ∷ []) bs ∙ begun-onto_first line b (slice_split (λ c. eqb c 10) bs) (omega (arith, more)) ∙ ap (begun line) (sym (slice_split-cons_no (λ c. eqb c 10) b bs other)))

-- the lines of a file that a line feed ends are the parts of what stands before it
pub lines_of-feed : (text : List ℕ) → lines_of (text ++ 10 ∷ []) ≡ slice_split (λ b. eqb b 10) text
lines_of-feed text = split_from [] text ∙ begun-nil (slice_split (λ b. eqb b 10) text)

pub last_is : (b : ℕ) (bytes : List ℕ) (d : ℕ) → 0 < length bytes → last_byte b bytes ≡ get_or bytes (length bytes - 1) d
last_is b [] d some = absurd (omega arith)
last_is b (c ∷ []) d some = refl
last_is b (c ∷ x ∷ xs) d some =
    let e : suc (suc (length xs)) - 1 ≡ suc (length xs) = omega arith in
    let f : suc (length xs) - 1 ≡ length xs = omega arith in
    rw e (rw f at (last_is c (x ∷ xs) d (omega arith)))

last_front : (b : ℕ) (bs : List ℕ) → last_byte b bs ≡ 10 → (front : List ℕ) × (b ∷ bs ≡ front ++ 10 ∷ [])
last_front b [] last = ([], ap (λ c. c ∷ []) last)
last_front b (c ∷ cs) last = let h = last_front c cs last in (b ∷ h.0, ap (λ l. b ∷ l) h.1)

-- a file that ends as it has to, and not in a line feed, is empty
pub unfed_empty : (bytes : List ℕ) → last_byte 10 bytes ≡ 10 → ((front : List ℕ) → bytes ≡ front ++ 10 ∷ [] → ⊥) → bytes ≡ []
unfed_empty [] last other = refl
unfed_empty (b ∷ bs) last other = let h = last_front b bs last in absurd (other h.0 h.1)
