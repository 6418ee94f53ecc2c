use Rattle.std.proofs.Common.{◌≡◌, ◌+◌, ◌≤◌, ◌++◌, length, take}
use Rattle.terms.specs.Entries.{entries}
use Rattle.objects.specs.Charts.{crossings}
use Rattle.objects.proofs.chart_object.ChartObject.cross.Given as goal

abbrev pub invariant-loop-state : goal.invariant-loop-state
invariant-loop-state l =
    record {
      verdict : l.reaction.verdict ≡ l.initial.reaction.verdict;
      sends : entries l.reaction.sends ≡ entries l.initial.reaction.sends ++ crossings (entries l.self.chart.states) (entries l.self.chart.sends) l.crossing (take l.state-index l.states);
      few : length (entries l.reaction.sends) ≤ length (entries l.initial.reaction.sends) + l.state-index;
    }
