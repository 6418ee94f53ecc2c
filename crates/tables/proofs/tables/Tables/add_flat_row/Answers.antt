use Rattle.tables.specs.Drawing.{with_flat_rows, add_flat_row}
use Rattle.tables.specs.Tables.{drawing}
use Rattle.tables.proofs.Kept.{added_held, flat_row_kept}
use Rattle.tables.proofs.tables.Tables.add_flat_row.Goals as goal

pub invariant_of-self : goal.invariant_of-self
unfolding add_flat_row
invariant_of-self c = record { within = added_held (with_flat_rows (drawing c.args.self.now)) _ c.add.result c.add.ensures c.flat_row_of-row.ensures (flat_row_kept _ _ _ _ _ _ _) c.args.self.now.within }
