use Rattle.tables.specs.Drawing.{net_drawing}
use Rattle.objects.proofs.Nets.{net_moves}
use Rattle.objects.proofs.net_object.NetObject.new.Goals as goal

pub returns-clause-drawn : goal.returns-clause-drawn
returns-clause-drawn c = net_moves (net_drawing c.args.net)
