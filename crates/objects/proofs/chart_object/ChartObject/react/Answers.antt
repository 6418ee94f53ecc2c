use Rattle.terms.specs.Events.{content}
use Rattle.tables.specs.Drawing.{chart_drawing}
use Rattle.objects.proofs.Decided.{responded}
use Rattle.objects.proofs.chart_object.ChartObject.react.Goals as goal

pub returns-clause-drawn : goal.returns-clause-drawn
returns-clause-drawn c = responded (chart_drawing c.args.self.now.chart) _ (content c.args.event.now) _ _ _ c.by_rule.ensures.answer
