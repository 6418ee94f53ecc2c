use Rattle.std.proofs.Common.{map, ◌≡◌}
use Rattle.terms.specs.Entries.{entries}
use Rattle.scenario.proofs.Scanned.{Read}
use Rattle.scenario.proofs.line.Line.parse.Given as goal

abbrev pub invariant-loop-digits : goal.invariant-loop-digits
invariant-loop-digits l =
    Read (entries l.self.numbers) (map (λ part. part.now) l.yielded) × (l.self.letter ≡ l.initial.self.letter)
