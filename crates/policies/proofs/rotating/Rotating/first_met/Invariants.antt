use Rattle.std.proofs.Common.{◌≡◌, ◌-◌, [], ◌∷◌}
use Rattle.terms.specs.Sets.{bits_of}
use Rattle.policies.specs.Picks.{first_met, met}
use Rattle.policies.proofs.rotating.Rotating.first_met.Given as goal

abbrev pub invariant-loop : goal.invariant-loop
invariant-loop l = met (l.self.turn ∷ []) (bits_of l.set) ≡ first_met (8 - l.counter) l.object (bits_of l.set)
