-- What a subscription leaves at a signal whose subscribers are known.
use Rattle.std.proofs.Common.{◌≡◌, ℕ, true, length, Some, Ok, refl}
use Rattle.terms.specs.Entries.{numbered, replaced}
use Rattle.terms.specs.Ranges.{between}
use Rattle.terms.specs.Sets.{joins}
use Rattle.terms.specs.declared.object_set.ObjectSet.{ObjectSet}
use Rattle.terms.proofs.Numbered.{declared, replaced-changed}
use Rattle.kernel.specs.Plan.{Plan, subscribed}

pub subscribed_there : (p : Plan) (object signal : ℕ) (s : ObjectSet) → between 1 object p.objects ≡ true → length p.subscribers ≡ 64 → numbered p.subscribers signal ≡ Some s
    → subscribed p object signal ≡ Ok (record p { subscribers = replaced p.subscribers signal (joins object s) })
subscribed_there p object signal s known signals some =
    let is = declared p.subscribers signal s some in
    rw (known, (rw signals at is), ← replaced-changed p.subscribers signal (joins object) s some) refl
