-- A chart within its limits moves as it is drawn.
use Rattle.std.proofs.Common.{◌≡◌, ℕ, zero, suc, ◌+◌, ◌-◌, ◌<◌, ◌≤◌, Bool, true, false, cond, ◌||◌, eqb, ◌⊎◌, List, [], ◌∷◌, ◌++◌, length, get_or, find, not, take, unwrap_or, Some, None, Option, add_comm, add-one, sym, refl, ap, ◌∙◌, subst, inl, inr, ⊎_elim, arith}
use Rattle.std.proofs.lemmas.List.{reverse-reverse}
use Rattle.std.proofs.lemmas.Bool.{cond-true, cond-false, cases_Bool, cases_eq, eqb-true, eq-eqb, ne_eqb, or_cases, or_left, or_right, false≢true}
use Rattle.std.specs.List.{position_or_len}
use Rattle.terms.specs.Entries.{numbered}
use Rattle.terms.proofs.Numbered.{numbered_in}
use Rattle.objects.specs.Charts.{climb, chain, on_chain, meeting, base_of, below, initial_of, initial_in, settle, reached, left, entered, start_in}
use Rattle.tables.specs.Drawing.{parent_of, up, descends}
use Rattle.tables.specs.Limits.{From1To, StatesWithin}
use Rattle.objects.specs.Moves.{On, Distinct, Base, Settles, rests, follows, Moved, Starts}
use Rattle.tables.specs.declared.chart.State.{State}
use Rattle.objects.specs.Walks.{few_chain}
use Rattle.objects.proofs.Climbs.{climb_top, settle_none, settle_some}
use Rattle.objects.proofs.Firsts.{told}

pub on_append : (x : ℕ) (xs ys : List ℕ) → On x ys → On x (xs ++ ys)
on_append x [] ys on = on
on_append x (y ∷ xs) ys on = or_right (eqb y x) (on_chain x (xs ++ ys)) (on_append x xs ys on)

pub chain_top : (ss : List State) → chain ss 0 ≡ []
unfolding chain
chain_top ss = refl

-- a chain that has ended is not longer for one step more
climb_enough : (ss : List State) (k n : ℕ) → up ss k n ≡ 0 → climb ss k n ≡ climb ss (suc k) n
climb_enough ss zero n is = sym (climb_top ss 1 n is)
climb_enough ss (suc k) zero is = refl
climb_enough ss (suc k) (suc m) is = ap (λ l. suc m ∷ l) (climb_enough ss k (parent_of ss (suc m)) is)

top_or : (b : Bool) (s : ℕ) (o : Option ℕ) → unwrap_or (cond b (Some s) o) 0 ≡ cond b s (unwrap_or o 0)
top_or true s o = refl
top_or false s o = refl

-- a state is below the base, or the base ends what is below it
below-cons : (base x : ℕ) (xs : List ℕ) → below base (x ∷ xs) ≡ cond (eqb x base) [] (x ∷ below base xs)
below-cons base x xs = elim (eqb x base) as (λ b. take (cond (not b) (1 + position_or_len (λ y. eqb y base) xs) 0) (x ∷ xs) ≡ cond b [] (x ∷ below base xs)) [ true ↦ refl | false ↦ rw (add_comm 1 (position_or_len (λ y. eqb y base) xs), add-one) refl ]

module _ (sends : ℕ) (ss : List State) (within : StatesWithin sends ss) where
  stated : (n : ℕ) → From1To (length ss) n → (s : State) × (numbered ss n ≡ Some s)
  stated n d = let blank : State = record { parent = 0; entry = None; exit = None; initial = None } in (get_or ss (n - 1) blank, numbered_in ss n blank d.0 d.1)

  parent_falls : (n : ℕ) → From1To (length ss) n → parent_of ss n < n
  parent_falls n d = let s = stated n d in let low = (within n s.0 s.1).parent in rw s.1 low

  pub chain_up : (n : ℕ) → From1To (length ss) n → chain ss n ≡ n ∷ chain ss (parent_of ss n)
  unfolding chain
  chain_up zero d = absurd (omega (arith, d.0))
  chain_up (suc m) d = let s = stated (suc m) d in ap (λ l. suc m ∷ l) (climb_enough ss 3 (parent_of ss (suc m)) (within (suc m) s.0 s.1).chain)

  parent_within : (n : ℕ) → From1To (length ss) n → parent_of ss n ≤ length ss
  parent_within n d = let low = parent_falls n d in omega (arith, d.1)

  -- a property of every state's chain, shown from the parent's: of 0 first, then of each state
  upward : (P : ℕ → Type 0) → P 0 → ((n : ℕ) → From1To (length ss) n → P (parent_of ss n) → P n) → (k n : ℕ) → n ≤ k → n ≤ length ss → P n
  upward P none step k zero low most = none
  upward P none step zero (suc m) low most = absurd (omega arith)
  upward P none step (suc k) (suc m) low most =
      let d : From1To (length ss) (suc m) = (omega arith, most) in
      step (suc m) d (upward P none step k (parent_of ss (suc m)) (omega (arith, parent_falls (suc m) d)) (parent_within (suc m) d))

  every : (P : ℕ → Type 0) → P 0 → ((n : ℕ) → From1To (length ss) n → P (parent_of ss n) → P n) → (n : ℕ) → n ≤ length ss → P n
  every P none step n most = upward P none step n n (omega arith) most

  on_none : (x : ℕ) → On x (chain ss 0) → ⊥
  on_none x on = false≢true (subst (λ l. on_chain x l ≡ true) (chain_top ss) on)

  -- on the chain of a state: the state, or on its parent's chain
  on_cases : (n x : ℕ) → From1To (length ss) n → On x (chain ss n) → (n ≡ x) ⊎ On x (chain ss (parent_of ss n))
  on_cases n x d on =
      ⊎_elim (λ is. inl (eqb-true n x is)) inr (or_cases (eqb n x) (on_chain x (chain ss (parent_of ss n))) (subst (λ l. on_chain x l ≡ true) (chain_up n d) on))

  on_self : (n : ℕ) → From1To (length ss) n → On n (chain ss n)
  on_self n d = rw (chain_up n d) (or_left (eqb n n) (on_chain n (chain ss (parent_of ss n))) (eq-eqb n n refl))

  on_above : (n x : ℕ) → From1To (length ss) n → On x (chain ss (parent_of ss n)) → On x (chain ss n)
  on_above n x d on = rw (chain_up n d) (or_right (eqb n x) (on_chain x (chain ss (parent_of ss n))) on)

  -- what is on a chain is declared, and not after the state
  on_low : (x n : ℕ) → n ≤ length ss → On x (chain ss n) → (1 ≤ x) × (x ≤ n)
  on_low x =
      every (λ n. On x (chain ss n) → (1 ≤ x) × (x ≤ n)) (λ on. absurd (on_none x on))
      (λ n d low on.
      ⊎_elim (λ (is : n ≡ x). (omega (arith, d.0), omega arith)) (λ above. let l = low above in let falls = parent_falls n d in (l.0, omega (arith, l.1))) (on_cases n x d on))

  pub distinct : (n : ℕ) → n ≤ length ss → Distinct (chain ss n)
  distinct =
      every (λ n. Distinct (chain ss n)) (subst Distinct (sym (chain_top ss)) tt)
      (λ n d up. subst Distinct (sym (chain_up n d)) (⊎_elim (λ on. let l = on_low n (parent_of ss n) (parent_within n d) on in absurd (omega (arith, l.1, parent_falls n d))) (λ out. out) (cases_Bool (on_chain n (chain ss (parent_of ss n)))), up))

  -- the top, or on the chain of a state
  abbrev Upward : ℕ → ℕ → Type 0
  Upward b n = (b ≡ 0) ⊎ On b (chain ss n)

  -- a chain is what is below a state on it, and then that state's chain
  split : (b n : ℕ) → n ≤ length ss → Upward b n → chain ss n ≡ below b (chain ss n) ++ chain ss b
  split b =
      every (λ n. Upward b n → chain ss n ≡ below b (chain ss n) ++ chain ss b)
      (λ u. ⊎_elim (λ (is : b ≡ 0). rw (chain_top ss, is, chain_top ss) refl) (λ on. absurd (on_none b on)) u)
      (λ n d above u.
      rw (chain_up n d, below-cons b n (chain ss (parent_of ss n)))
      (⊎_elim
      (λ (is : n ≡ b). rw (cond-true (eqb n b) [] (n ∷ below b (chain ss (parent_of ss n))) (eq-eqb n b is)) (sym (chain_up n d) ∙ ap (chain ss) is))
      (λ (other : n ≡ b → ⊥). rw (cond-false (eqb n b) [] (n ∷ below b (chain ss (parent_of ss n))) (ne_eqb n b other)) (ap (λ l. n ∷ l) (above (⊎_elim inl (λ on. ⊎_elim (λ is. absurd (other is)) inr (on_cases n b d on)) u))))
      (cases_eq n b)))

  -- on the chain of what is on a chain
  on_on : (x y n : ℕ) → n ≤ length ss → On y (chain ss n) → On x (chain ss y) → On x (chain ss n)
  on_on x y n most on onto = subst (λ l. on_chain x l ≡ true) (sym (split y n most (inr on))) (on_append x (below y (chain ss n)) (chain ss y) onto)

  upward_on : (b y n : ℕ) → n ≤ length ss → On y (chain ss n) → Upward b y → Upward b n
  upward_on b y n most on u = ⊎_elim inl (λ onto. inr (on_on b y n most on onto)) u

  upward_parent : (n : ℕ) → From1To (length ss) n → Upward (parent_of ss n) n
  upward_parent n d =
      ⊎_elim (λ is. inl is) (λ some. inr (on_above n (parent_of ss n) d (on_self (parent_of ss n) (omega arith, parent_within n d)))) (cases_eq (parent_of ss n) 0)

  -- n steps up from a state
  climbs : (n k t : ℕ) → 1 ≤ n → t ≤ length ss → up ss k t ≡ n → On n (chain ss t) × (length (chain ss t) ≡ k + length (chain ss n))
  climbs n zero t low most is = rw is (on_self n (low, omega arith), omega arith)
  climbs n (suc k) zero low most is = absurd (on_none n (climbs n k 0 low most is).0)
  climbs n (suc k) (suc m) low most is =
      let d : From1To (length ss) (suc m) = (omega arith, most) in
      let more = climbs n k (parent_of ss (suc m)) low (parent_within (suc m) d) is in
      (on_above (suc m) n d more.0, omega (arith, ap length (chain_up (suc m) d), more.1))

  -- an initial target is inside its state
  inside : (n t : ℕ) → 1 ≤ n → t ≤ length ss → descends ss t n ≡ true → On n (chain ss t) × (length (chain ss n) < length (chain ss t))
  inside n t low most is =
      ⊎_elim (λ one. let c = climbs n 1 t low most (eqb-true _ n one) in (c.0, omega (arith, c.1)))
      (λ more. ⊎_elim (λ two. let c = climbs n 2 t low most (eqb-true _ n two) in (c.0, omega (arith, c.1))) (λ three. let c = climbs n 3 t low most (eqb-true _ n three) in (c.0, omega (arith, c.1))) (or_cases (eqb (up ss 2 t) n) (eqb (up ss 3 t) n) more))
      (or_cases (eqb (up ss 1 t) n) (eqb (up ss 2 t) n || eqb (up ss 3 t) n) is)

  initial_inside : (n t : ℕ) → From1To (length ss) n → initial_of ss n ≡ Some t → From1To (length ss) t × On n (chain ss t) × (length (chain ss n) < length (chain ss t))
  initial_inside n t d some =
      let s = stated n d in
      let initial : s.0.initial ≡ Some t = sym (ap initial_in s.1) ∙ some in
      let w : From1To (length ss) t × (descends ss t n ≡ true) = rw initial at (within n s.0 s.1).initial in
      let i = inside n t d.0 w.0.1 w.1 in
      (w.0, i.0, i.1)

  -- a state is on the chain of the one to which its initial targets lead
  settled_on : (k t : ℕ) → From1To (length ss) t → From1To (length ss) (settle ss k t) × On t (chain ss (settle ss k t))
  settled_on zero t d = (d, on_self t d)
  settled_on (suc k) t d =
      ⊎_elim
      (λ some.
      let i = initial_inside t some.0 d some.1 in
      let more = settled_on k some.0 i.0 in
      rw (settle_some ss k t some.0 some.1) (more.0, on_on t some.0 (settle ss k some.0) more.0.1 more.1 i.1))
      (λ none. rw (settle_none ss k t none) (d, on_self t d))
      (told (initial_of ss t))

  -- a chain of four states has no room for more initial targets
  settled : (k t : ℕ) → From1To (length ss) t → 4 ≤ k + length (chain ss t) → Settles ss t (settle ss k t)
  settled zero t d long =
      rests t (⊎_elim (λ some. let i = initial_inside t some.0 d some.1 in absurd (omega (arith, i.2, few_chain ss some.0))) (λ none. none) (told (initial_of ss t)))
  settled (suc k) t d long =
      ⊎_elim
      (λ some.
      let i = initial_inside t some.0 d some.1 in
      rw (settle_some ss k t some.0 some.1) (follows t some.0 (settle ss k some.0) some.1 (settled k some.0 i.0 (omega (arith, i.2)))))
      (λ none. rw (settle_none ss k t none) (rests t none))
      (told (initial_of ss t))

  settles : (t : ℕ) → From1To (length ss) t → Settles ss t (reached ss t)
  unfolding reached
  settles t d = settled 3 t d (omega (arith, ap length (chain_up t d)))

  reached_on : (t : ℕ) → From1To (length ss) t → From1To (length ss) (reached ss t) × On t (chain ss (reached ss t))
  unfolding reached
  reached_on t d = settled_on 3 t d

  settled_final : (s r : ℕ) → Settles ss s r → initial_of ss r ≡ None
  settled_final _ _ (rests s none) = none
  settled_final _ _ (follows s t r some more) = settled_final t r more

  -- where two chains meet is on both, and every state on both is there or above
  abbrev met : ℕ → ℕ → ℕ
  met s t = meeting (chain ss s) (chain ss t)

  met_up : (s t : ℕ) → From1To (length ss) s → met s t ≡ cond (on_chain s (chain ss t)) s (met (parent_of ss s) t)
  met_up s t d = ap (λ l. meeting l (chain ss t)) (chain_up s d) ∙ top_or (on_chain s (chain ss t)) s (find (λ x. on_chain x (chain ss t)) (chain ss (parent_of ss s)))

  met_both : (t s : ℕ) → s ≤ length ss → (met s t ≡ 0) ⊎ (On (met s t) (chain ss s) × On (met s t) (chain ss t))
  met_both t =
      every (λ s. (met s t ≡ 0) ⊎ (On (met s t) (chain ss s) × On (met s t) (chain ss t)))
      (inl (ap (λ l. meeting l (chain ss t)) (chain_top ss)))
      (λ s d above.
      ⊎_elim
      (λ on. let here = met_up s t d ∙ cond-true (on_chain s (chain ss t)) s (met (parent_of ss s) t) on in inr (rw here (on_self s d, on)))
      (λ out. let later = met_up s t d ∙ cond-false (on_chain s (chain ss t)) s (met (parent_of ss s) t) out in
      rw later (⊎_elim inl (λ b. inr (on_above s (met (parent_of ss s) t) d b.0, b.1)) above))
      (cases_Bool (on_chain s (chain ss t))))

  met_lowest : (t x s : ℕ) → s ≤ length ss → On x (chain ss s) → On x (chain ss t) → On x (chain ss (met s t))
  met_lowest t x =
      every (λ s. On x (chain ss s) → On x (chain ss t) → On x (chain ss (met s t)))
      (λ on onto. absurd (on_none x on))
      (λ s d above on onto.
      ⊎_elim
      (λ here. rw (met_up s t d ∙ cond-true (on_chain s (chain ss t)) s (met (parent_of ss s) t) here) on)
      (λ out. rw (met_up s t d ∙ cond-false (on_chain s (chain ss t)) s (met (parent_of ss s) t) out)
      (⊎_elim (λ (is : s ≡ x). absurd (false≢true (sym out ∙ ap (λ (y : ℕ). on_chain y (chain ss t)) is ∙ onto))) (λ more. above more onto) (on_cases s x d on)))
      (cases_Bool (on_chain s (chain ss t))))

  based : (s t : ℕ) → From1To (length ss) s → From1To (length ss) t → Base ss s t (base_of ss s t) × Upward (base_of ss s t) s × Upward (base_of ss s t) t
  based s t d e =
      ⊎_elim
      (λ (is : s ≡ t).
      rw (cond-true (eqb s t) (parent_of ss s) (met s t) (eq-eqb s t is))
      (record { itself = λ _. refl; both = λ other. absurd (other is); lowest = λ other. absurd (other is) }, upward_parent s d, subst (λ (n : ℕ). Upward (parent_of ss s) n) is (upward_parent s d)))
      (λ (other : s ≡ t → ⊥).
      rw (cond-false (eqb s t) (parent_of ss s) (met s t) (ne_eqb s t other))
      (let b = met_both t s d.1 in
      (record { itself = λ is. absurd (other is); both = λ _. b; lowest = λ _ x. met_lowest t x s d.1 }, ⊎_elim inl (λ on. inr on.0) b, ⊎_elim inl (λ on. inr on.1) b)))
      (cases_eq s t)

  -- a move by a row of an active state
  pub moved : (current s t : ℕ) → current ≤ length ss → On s (chain ss current) → From1To (length ss) t → Moved ss current s t (left ss current s t) (entered ss s t) (reached ss t)
  moved current s t most active d =
      let b = base_of ss s t in
      let low = on_low s current most active in
      let lies = based s t (low.0, omega (arith, low.1)) d in
      let r = reached_on t d in
      let into = below b (chain ss (reached ss t)) in
      record {
        base = b;
        lies = lies.0;
        leaves = split b current most (upward_on b s current most active lies.1);
        enters = split b (reached ss t) r.0.1 (upward_on b t (reached ss t) r.0.1 r.1 lies.2) ∙ ap (λ l. l ++ chain ss b) (sym (reverse-reverse into));
        through = r.1;
        settles = settles t d;
        final = settled_final t (reached ss t) (settles t d);
        declared = r.0;
      }

pub started : (sends : ℕ) (ss : List State) → StatesWithin sends ss → Starts ss (start_in ss)
started sends [] within = refl
started sends (s ∷ ss) within = settles sends (s ∷ ss) within 1 (omega arith, omega arith)

pub start_declared : (sends : ℕ) (ss : List State) → StatesWithin sends ss → start_in ss ≤ length ss
start_declared sends [] within = omega arith
start_declared sends (s ∷ ss) within = (reached_on sends (s ∷ ss) within 1 (omega arith, omega arith)).0.1
