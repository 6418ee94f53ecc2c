-- Going up a chain, and along initial targets, a step at a time.
use Rattle.std.proofs.Common.{◌≡◌, ℕ, zero, suc, ◌+◌, ◌-◌, ◌<◌, true, is_ok, Some, None, Ok, Err, Result, List, [], ◌∷◌, ◌++◌, length, sym, refl, ap, ◌∙◌, arith, append_assoc}
use Rattle.std.proofs.lemmas.List.{length_push}
use Rattle.std.specs.Option.{option_map_or}
use Rattle.terms.specs.Calls.{Follows}
use Rattle.terms.specs.Entries.{added}
use Rattle.terms.specs.declared.table.TableFault.{TableFault}
use Rattle.terms.proofs.Added.{added_last}
use Rattle.objects.specs.Charts.{climb, chain, initial_of, settle}
use Rattle.tables.specs.Drawing.{parent_of}
use Rattle.tables.specs.declared.chart.State.{State}

-- a chain from nothing
pub chain_starts : (ss : List State) (s : ℕ) (xs : List ℕ) → xs ≡ [] → xs ++ climb ss (4 - length xs) s ≡ chain ss s
unfolding chain
chain_starts ss s xs none = rw none refl

climb_more : (ss : List State) (s k : ℕ) → (s ≡ 0 → ⊥) → climb ss (suc k) s ≡ s ∷ climb ss k (parent_of ss s)
climb_more ss zero k some = absurd (some refl)
climb_more ss (suc n) k some = refl

-- one state more of a chain, its parent being next
pub climbed : (ss : List State) (xs ys : List ℕ) (s : ℕ) → (s ≡ 0 → ⊥) → length xs < 4 → ys ≡ xs ++ s ∷ [] → ys ++ climb ss (4 - length ys) (parent_of ss s) ≡ xs ++ climb ss (4 - length xs) s
climbed ss xs ys s some room new =
    let long : length ys ≡ length xs + 1 = ap length new ∙ length_push xs s in
    let k = 4 - length ys in
    let one : 4 - length xs ≡ suc k = omega arith in
    ap (λ l. l ++ climb ss k (parent_of ss s)) new ∙ append_assoc xs (s ∷ []) (climb ss k (parent_of ss s))
    ∙ ap (λ l. xs ++ l) (sym (climb_more ss s k some)) ∙ ap (λ (n : ℕ). xs ++ climb ss n s) (sym one)

-- nothing is above the top
pub climb_top : (ss : List State) (k s : ℕ) → s ≡ 0 → climb ss k s ≡ []
climb_top ss zero s is = refl
climb_top ss (suc k) zero is = refl
climb_top ss (suc k) (suc n) is = absurd (omega arith)

-- an entry that a table takes goes last
pub taken : {U : Type 0} (N : ℕ) (xs ys : List ℕ) (x : ℕ) (r : Result U TableFault) → Follows (added N xs (Some x)) r xs ys → is_ok r ≡ true → ys ≡ xs ++ x ∷ []
taken N xs ys x (Ok u) follows ok = added_last N xs ys x follows
taken N xs ys x (Err f) follows ok = absurd (cc)

-- a state with no initial target is where it leads
pub settle_none : (ss : List State) (k s : ℕ) → initial_of ss s ≡ None → settle ss (suc k) s ≡ s
settle_none ss k s none = ap (λ o. option_map_or (settle ss k) o s) none

-- an initial target is followed
pub settle_some : (ss : List State) (k s t : ℕ) → initial_of ss s ≡ Some t → settle ss (suc k) s ≡ settle ss k t
settle_some ss k s t some = ap (λ o. option_map_or (settle ss k) o s) some
