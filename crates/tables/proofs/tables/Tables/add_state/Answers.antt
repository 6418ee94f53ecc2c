use Rattle.tables.specs.Drawing.{with_states, add_state}
use Rattle.tables.specs.Tables.{drawing}
use Rattle.tables.proofs.Kept.{added_held, state_kept}
use Rattle.tables.proofs.tables.Tables.add_state.Goals as goal

pub invariant_of-self : goal.invariant_of-self
unfolding add_state
invariant_of-self c = record { within = added_held (with_states (drawing c.args.self.now)) _ c.add.result c.add.ensures c.state_of-state.ensures (state_kept _ _ _ _ _) c.args.self.now.within }
