use Rattle.std.proofs.Common.{ap, ◌∙◌, arith}
use Rattle.policies.specs.Picks.{highest}
use Rattle.policies.proofs.Entries.{entry_highest}
use Rattle.policies.proofs.strict.highest_of.Goals as goal

pub returns : goal.returns
returns c = entry_highest c.table.result.now c.table.ensures.size c.table.ensures.rule c.from.result (omega arith) ∙ ap highest (c.from.ensures ∙ c.bits.ensures)
