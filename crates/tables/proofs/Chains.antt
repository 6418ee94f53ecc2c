-- Chains of parents in a chart, which stay as they were while the chart grows or a state's initial target changes.
use Rattle.std.proofs.Common.{◌≡◌, ℕ, zero, suc, ◌<◌, ◌≤◌, List, [], ◌∷◌, ◌++◌, length, Some, None, Option, refl, ap, ◌∙◌, arith}
use Rattle.std.proofs.lemmas.Option.{IfSome_then}
use Rattle.terms.specs.Entries.{numbered, changed}
use Rattle.terms.proofs.Held.{numbered_push}
use Rattle.terms.proofs.Numbered.{numbered_some}
use Rattle.tables.specs.Drawing.{parent_in, parent_of, up, descends, starting_at}
use Rattle.tables.specs.Limits.{From1To, StateWithin, StatesWithin}
use Rattle.tables.specs.declared.chart.State.{State}

parent_low : (o : Option State) (n : ℕ) → ((s : State) → o ≡ Some s → s.parent < n) → parent_in o ≤ n
parent_low None n falls = omega arith
parent_low (Some s) n falls = omega (arith, falls s refl)

-- the states of ss are within their limits, and have the same parents in ts
module _ (sends : ℕ) (ss ts : List State) (within : StatesWithin sends ss) (same : (m : ℕ) → m ≤ length ss → parent_of ts m ≡ parent_of ss m) where
  pub up_same : (k m : ℕ) → m ≤ length ss → up ts k m ≡ up ss k m
  up_same zero m low = refl
  up_same (suc k) m low =
      let below = parent_low (numbered ss m) m (λ s is. (within m s is).parent) in
      ap (up ts k) (same m low) ∙ up_same k (parent_of ss m) (omega arith)

  pub descends_same : (m n : ℕ) → m ≤ length ss → descends ts m n ≡ descends ss m n
  descends_same m n low = let a = up_same 1 m low in let b = up_same 2 m low in let c = up_same 3 m low in cc

  -- they are within their limits there too, also where more sends are declared
  pub state_still : (more : ℕ) → sends ≤ more → length ss ≤ length ts → (n : ℕ) (s : State) → numbered ss n ≡ Some s → StateWithin more ts n s
  state_still more grown longer n s is =
      let w = within n s is in
      let kept : (send : ℕ) → From1To sends send → From1To more send = λ send is. (is.0, omega (arith, is.1)) in
      record {
        parent = w.parent;
        chain = up_same 4 n (numbered_some ss n s is).1 ∙ w.chain;
        entry = IfSome_then s.entry w.entry kept;
        exit = IfSome_then s.exit w.exit kept;
        initial = IfSome_then s.initial w.initial (λ t inside. ((inside.0.0, omega (arith, inside.0.1)), descends_same t n inside.0.1 ∙ inside.1));
      }

-- a state more changes no parent
pub parent_push : (ss : List State) (x : State) (m : ℕ) → m ≤ length ss → parent_of (ss ++ x ∷ []) m ≡ parent_of ss m
parent_push ss x m low = ap parent_in (numbered_push ss x m low)

-- nor does a state's initial target
pub parent_starting_at : (target : ℕ) (ss : List State) (n m : ℕ) → parent_of (changed ss n (starting_at target)) m ≡ parent_of ss m
parent_starting_at target ss zero m = refl
parent_starting_at target [] (suc n) m = refl
parent_starting_at target (s ∷ ss) (suc n) zero = refl
parent_starting_at target (s ∷ ss) (suc zero) (suc zero) = refl
parent_starting_at target (s ∷ ss) (suc zero) (suc (suc m)) = refl
parent_starting_at target (s ∷ ss) (suc (suc n)) (suc zero) = refl
parent_starting_at target (s ∷ ss) (suc (suc n)) (suc (suc m)) = parent_starting_at target ss (suc n) (suc m)
