use Rattle.tables.specs.Drawing.{chart_drawing}
use Rattle.objects.proofs.Decided.{as_drawn}
use Rattle.objects.proofs.chart_object.ChartObject.new.Goals as goal

pub returns-clause-drawn : goal.returns-clause-drawn
returns-clause-drawn c = as_drawn (chart_drawing c.args.chart)
