use Rattle.std.proofs.Common.{◌≡◌}
use Rattle.terms.specs.Entries.{entries}
use Rattle.objects.proofs.ways.outermost_first.Given as goal

abbrev pub invariant-loop-state : goal.invariant-loop-state
invariant-loop-state l = entries l.reversed ≡ l.yielded
