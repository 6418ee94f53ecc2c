use Rattle.tables.specs.Drawing.{with_sends, add_send}
use Rattle.tables.specs.Tables.{drawing}
use Rattle.tables.proofs.Kept.{added_held, send_kept}
use Rattle.tables.proofs.tables.Tables.add_send.Goals as goal

pub invariant_of-self : goal.invariant_of-self
unfolding add_send
invariant_of-self c = record { within = added_held (with_sends (drawing c.args.self.now)) _ c.add.result c.add.ensures c.send_of.ensures (send_kept _ _ _ _ _ _) c.args.self.now.within }
