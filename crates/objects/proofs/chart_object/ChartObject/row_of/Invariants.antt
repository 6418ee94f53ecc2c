use Rattle.std.proofs.Common.{◌≡◌, find, drop}
use Rattle.objects.specs.Charts.{applies}
use Rattle.objects.proofs.chart_object.ChartObject.row_of.Given as goal

abbrev pub invariant-loop-row : goal.invariant-loop-row
invariant-loop-row l =
    find (applies l.state l.signal l.word) (drop l.row-index l.row-items) ≡ find (applies l.state l.signal l.word) l.row-items
