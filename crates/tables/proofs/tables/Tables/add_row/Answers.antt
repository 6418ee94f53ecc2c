use Rattle.tables.specs.Drawing.{with_rows, add_row}
use Rattle.tables.specs.Tables.{drawing}
use Rattle.tables.proofs.Kept.{added_held, row_kept}
use Rattle.tables.proofs.tables.Tables.add_row.Goals as goal

pub invariant_of-self : goal.invariant_of-self
unfolding add_row
invariant_of-self c = record { within = added_held (with_rows (drawing c.args.self.now)) _ c.add.result c.add.ensures c.row_of-row.ensures (row_kept _ _ _) c.args.self.now.within }
