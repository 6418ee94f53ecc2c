use Rattle.std.proofs.Common.{map}
use Rattle.scenario.specs.Reading.{page_of}
use Rattle.scenario.proofs.Read.{ReadSoFar}
use Rattle.scenario.proofs.reader.read_lines.Given as goal

abbrev pub invariant-loop-line : goal.invariant-loop-line
invariant-loop-line l = ReadSoFar (map (λ part. part.now) l.yielded) l.reader.lines (page_of l.reader.draft l.reader.script)
