-- The worked cases follow from the definitions.
use Rattle.std.proofs.Common.{◌≡◌, Ok, Err, Result, sym, refl, ◌∙◌}
use Rattle.terms.specs.Calls.{Follows}
use Rattle.objects.specs.Charts.{chain, reached}
use Rattle.policies.specs.Picks.{highest, met}
use Rattle.objects.specs.Worked.{five_states, WorkedCases}

pub worked : WorkedCases five_states
unfolding chain reached highest met
worked =
    record {
      to_another_branch = (refl, refl);
      to_itself = (refl, refl);
      to_child = (refl, refl);
      to_ancestor = (refl, refl);
      guards = (refl, refl);
      highest_member = refl;
      rotating_turn = (refl, refl);
    }

-- a call that its rule accepts leaves what the rule says
pub done : {S F U : Type 0} (rule : Result S F) (r : Result U F) (before after new : S) → Follows rule r before after → rule ≡ Ok new → after ≡ new
done rule (Ok u) before after new follows is = let e : Ok after ≡ Ok new = sym follows ∙ is in cc
done rule (Err f) before after new follows is = let e : Err f ≡ Ok new = sym follows.0 ∙ is in absurd (cc)
