use Rattle.terms.specs.Events.{content}
use Rattle.tables.specs.Drawing.{net_drawing}
use Rattle.objects.proofs.Nets.{responded}
use Rattle.objects.proofs.net_object.NetObject.react.Goals as goal

pub returns-clause-drawn : goal.returns-clause-drawn
returns-clause-drawn c = responded (net_drawing c.args.self.now.net) _ (content c.args.event.now) _ _ _ c.by_rule.ensures.answer
