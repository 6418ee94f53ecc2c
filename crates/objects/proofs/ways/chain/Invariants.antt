use Rattle.std.proofs.Common.{◌≡◌, ◌-◌, ◌<◌, ◌++◌, length}
use Rattle.terms.specs.Entries.{entries}
use Rattle.objects.specs.Charts.{climb, chain}
use Rattle.objects.proofs.ways.chain.Given as goal

abbrev pub invariant-loop-state : goal.invariant-loop-state
invariant-loop-state l = (entries l.chain ++ climb (entries l.states) (4 - length (entries l.chain)) l.state ≡ chain (entries l.states) l.innermost) × (l.state < 256)

abbrev pub decreases-loop-state : goal.decreases-loop-state
decreases-loop-state l = 4 - length (entries l.chain)
