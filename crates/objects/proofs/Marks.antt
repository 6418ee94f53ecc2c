-- The marks after a transition, place by place.
use Rattle.std.proofs.Common.{◌≡◌, ℕ, zero, suc, ◌+◌, ◌-◌, ◌<◌, ◌≤◌, ◌⊎◌, List, [], ◌∷◌, ◌++◌, length, take, Some, None, Option, unwrap_or, sym, refl, ap, ◌∙◌, inl, inr, ⊎_elim, arith}
use Rattle.std.proofs.lemmas.List.{take_more_set, take_all, length_push}
use Rattle.std.proofs.lemmas.Bool.{cases_eq}
use Rattle.std.proofs.lemmas.Bool.Decides.{nat_tests}
use Rattle.terms.proofs.Held.{numbered_push, numbered_last}
use Rattle.terms.specs.Entries.{numbered, values, replaced}
use Rattle.tables.specs.declared.net.Transition.{Transition}
use Rattle.tables.specs.Limits.{From1To}
use Rattle.objects.specs.Nets.{at_place, place_after, with_place, marks_after, fired, Changes, Blocked}

-- the marks of one place after a transition
abbrev pub after : List ℕ → Transition → ℕ → Option ℕ
after marks t place = place_after (at_place marks place) (at_place (values t.takes) place) (at_place (values t.gives) place)

blocked_place : (o : Option (List ℕ)) → with_place o None ≡ None
blocked_place None = refl
blocked_place (Some ms) = refl

module _ (marks : List ℕ) (t : Transition) where
  -- one place that does not let the transition fire is enough
  blocked_by : (n place : ℕ) → 1 ≤ place → place ≤ n → after marks t place ≡ None → marks_after n marks t ≡ None
  blocked_by zero place low high none = absurd (omega arith)
  blocked_by (suc n) place low high none =
      ⊎_elim
      (λ same. ap (with_place (marks_after n marks t)) (ap (after marks t) (sym same) ∙ none) ∙ blocked_place (marks_after n marks t))
      (λ other. ap (λ o. with_place o (after marks t (suc n))) (blocked_by n place low (grind arith) none))
      (cases_eq place (suc n))

  pub fired_not : (place : ℕ) → 1 ≤ place → place ≤ 8 → after marks t place ≡ None → fired marks t ≡ None
  unfolding fired
  fired_not place low high none = blocked_by 8 place low high none

  -- one place more
  pub after_more : (place : ℕ) (ms new : List ℕ) (m : ℕ) → 1 ≤ place → place ≤ length ms → marks_after (place - 1) marks t ≡ Some (take (place - 1) ms) → after marks t place ≡ Some m → new ≡ replaced ms place m → marks_after (place + 1 - 1) marks t ≡ Some (take (place + 1 - 1) new)
  after_more zero ms new m low high so here are = absurd (omega arith)
  after_more (suc i) ms new m low high so here are =
      let e : suc i - 1 ≡ i = omega arith in
      let next : suc i + 1 - 1 ≡ suc i = omega arith in
      let more : i + 1 ≡ suc i = omega arith in
      let front : marks_after i marks t ≡ Some (take i ms) = rw e at so in
      rw next
      (ap (λ o. with_place o (after marks t (suc i))) front ∙ ap (with_place (Some (take i ms))) here
      ∙ ap Some (sym (rw more at (take_more_set ms i m (omega arith))) ∙ ap (take (suc i)) (sym are)))

  pub fired_all : (place : ℕ) (ms : List ℕ) → place ≡ 9 → length ms ≡ 8 → marks_after (place - 1) marks t ≡ Some (take (place - 1) ms) → Some ms ≡ fired marks t
  unfolding fired
  fired_all place ms done long so =
      let e : place - 1 ≡ 8 = omega arith in
      ap Some (sym (take_all (place - 1) ms (omega arith))) ∙ sym so ∙ ap (λ (k : ℕ). marks_after k marks t) e

changed : (before take give left : ℕ) → place_after before take give ≡ Some left → Changes before take give left
changed before take give left is = grind (arith, nat_tests)

not_changed : (before take give : ℕ) → place_after before take give ≡ None → (before < take) ⊎ (255 + take < before + give)
not_changed before take give none = grind (arith, nat_tests)

-- what is there where all places up to one let the transition fire
both_placed : (o : Option (List ℕ)) (p : Option ℕ) (ms : List ℕ) → with_place o p ≡ Some ms → (front : List ℕ) × (m : ℕ) × (o ≡ Some front) × (p ≡ Some m) × (front ++ m ∷ [] ≡ ms)
both_placed None p ms is = absurd (cc)
both_placed (Some front) None ms is = absurd (cc)
both_placed (Some front) (Some m) ms is = (front, m, refl, refl, (cc))

one_blocked : (o : Option (List ℕ)) (p : Option ℕ) → with_place o p ≡ None → (o ≡ None) ⊎ (p ≡ None)
one_blocked None p is = inl refl
one_blocked (Some front) None is = inr refl
one_blocked (Some front) (Some m) is = absurd (cc)

module _ (marks : List ℕ) (t : Transition) where
  as_long : (n : ℕ) (ms : List ℕ) → marks_after n marks t ≡ Some ms → length ms ≡ n
  as_long zero ms is = let e : [] ≡ ms = cc in ap length (sym e)
  as_long (suc n) ms is =
      let b = both_placed (marks_after n marks t) (after marks t (suc n)) ms is in
      let long = as_long n b.0 b.2 in
      let more = length_push b.0 b.1 in
      let same = ap length b.4 in
      omega arith

  at_each : (n : ℕ) (ms : List ℕ) (k : ℕ) → marks_after n marks t ≡ Some ms → k < n → after marks t (suc k) ≡ Some (at_place ms (suc k))
  at_each zero ms k is under = absurd (omega arith)
  at_each (suc n) ms k is under =
      let b = both_placed (marks_after n marks t) (after marks t (suc n)) ms is in
      let long = as_long n b.0 b.2 in
      ⊎_elim
      (λ same.
      let last : at_place (b.0 ++ b.1 ∷ []) (suc k) ≡ b.1 = ap (λ (j : ℕ). at_place (b.0 ++ b.1 ∷ []) (suc j)) (same ∙ sym long) ∙ ap (λ o. unwrap_or o 0) (numbered_last b.0 b.1) in
      ap (λ (j : ℕ). after marks t (suc j)) same ∙ b.3 ∙ ap Some (sym last ∙ ap (λ l. at_place l (suc k)) b.4))
      (λ other.
      let low : k < n = grind arith in
      at_each n b.0 k b.2 low ∙ ap (λ o. Some (unwrap_or o 0)) (sym (numbered_push b.0 b.1 (suc k) (omega arith)) ∙ ap (λ l. numbered l (suc k)) b.4))
      (cases_eq k n)

  some_blocked : (n : ℕ) → marks_after n marks t ≡ None → (k : ℕ) × (k < n) × (after marks t (suc k) ≡ None)
  some_blocked zero none = absurd (cc)
  some_blocked (suc n) none =
      ⊎_elim
      (λ before. let b = some_blocked n before in (b.0, omega arith, b.2))
      (λ here. (n, omega arith, here))
      (one_blocked (marks_after n marks t) (after marks t (suc n)) none)

  pub blocked : fired marks t ≡ None → Blocked marks t
  unfolding fired
  blocked out =
      let b = some_blocked 8 out in
      record { place = suc b.0; within = (omega arith, omega arith); blocked = not_changed (at_place marks (suc b.0)) (at_place (values t.takes) (suc b.0)) (at_place (values t.gives) (suc b.0)) b.2 }

  pub changes : (ms : List ℕ) → fired marks t ≡ Some ms → (n : ℕ) → From1To 8 n → Changes (at_place marks n) (at_place (values t.takes) n) (at_place (values t.gives) n) (at_place ms n)
  unfolding fired
  changes ms is zero within = absurd (omega arith)
  changes ms is (suc k) within = changed (at_place marks (suc k)) (at_place (values t.takes) (suc k)) (at_place (values t.gives) (suc k)) (at_place ms (suc k)) (at_each 8 ms k is (omega arith))

  pub eight : (ms : List ℕ) → fired marks t ≡ Some ms → length ms ≡ 8
  unfolding fired
  eight ms is = as_long 8 ms is
