-- What a call said, where `map_err` has made its cause a fault with a line.
use Rattle.std.proofs.Common.{◌≡◌, ℕ, Ok, Err, MatchResult, Result, sym, ap, ◌∙◌}
use Rattle.std.specs.Result.{IsErrAnd}
use Rattle.std.proofs.lemmas.Result.{err_from_is_err_and}
use Rattle.scenario.specs.declared.fault.Cause.{Cause}
use Rattle.scenario.specs.declared.fault.Fault.{Fault}

module _ {X : Type 0} (n : ℕ) where
  pub ok_before : (r : Result X Cause) (m : Result X Fault) (R : Cause → Fault → Type 0) → MatchResult r (λ x. m ≡ Ok x) (λ e. IsErrAnd m (λ f. R e f)) → (x : X) → m ≡ Ok x → r ≡ Ok x
  ok_before (Ok y) m R h x is = let same : ◌≡◌ {A = Result X Fault} (Ok y) (Ok x) = sym h ∙ is in cc
  ok_before (Err e) m R h x is = let p = err_from_is_err_and m h in let z : ◌≡◌ {A = Result X Fault} (Ok x) (Err p.0) = sym is ∙ p.1 in cc

  pub cause_before : (r : Result X Cause) (m : Result X Fault) (R : Cause → Fault → Type 0) → MatchResult r (λ x. m ≡ Ok x) (λ e. IsErrAnd m (λ f. R e f)) → ((e : Cause) (f : Fault) → R e f → f ≡ record { line = n; cause = e }) → (f : Fault) → m ≡ Err f → (f.line ≡ n) × (r ≡ Err f.cause)
  cause_before (Ok y) m R h gives f is = let z : ◌≡◌ {A = Result X Fault} (Ok y) (Err f) = sym h ∙ is in absurd (cc)
  cause_before (Err e) m R h gives f is =
      let p = err_from_is_err_and m h in
      let same : p.0 ≡ record { line = n; cause = e } = gives e p.0 p.2 in
      let q : ◌≡◌ {A = Result X Fault} (Err f) (Err p.0) = sym is ∙ p.1 in
      let made : f ≡ record { line = n; cause = e } = cc in
      (ap (λ g. g.line) made, ap (λ g. Err g.cause) (sym made))
