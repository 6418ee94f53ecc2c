use Rattle.terms.specs.Events.{content}
use Rattle.tables.specs.Drawing.{flat_drawing}
use Rattle.objects.proofs.FlatDrawn.{responded}
use Rattle.objects.proofs.flat_object.FlatObject.react.Goals as goal

pub returns-clause-drawn : goal.returns-clause-drawn
returns-clause-drawn c = responded (flat_drawing c.args.self.now.flat) _ (content c.args.event.now) _ _ _ c.by_rule.ensures.answer
