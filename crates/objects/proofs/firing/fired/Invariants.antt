use Rattle.std.proofs.Common.{◌≡◌, ◌-◌, take, Some}
use Rattle.terms.specs.Entries.{values}
use Rattle.objects.specs.Nets.{marks_after}
use Rattle.objects.proofs.firing.fired.Given as goal

abbrev pub invariant-loop-place : goal.invariant-loop-place
invariant-loop-place l = marks_after (l.place - 1) (values l.marks) l.transition ≡ Some (take (l.place - 1) (values l.after))
