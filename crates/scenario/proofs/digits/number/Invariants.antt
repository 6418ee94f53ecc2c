use Rattle.std.proofs.Common.{take}
use Rattle.scenario.proofs.Numerals.{Counts}
use Rattle.scenario.proofs.digits.number.Given as goal

abbrev pub invariant-loop-digit : goal.invariant-loop-digit
invariant-loop-digit l = Counts (take l.digit-index l.digits) l.value
