use Rattle.std.proofs.Common.{arith}
use Rattle.std.proofs.lemmas.Grind.{common_steps}
use Rattle.terms.specs.Entries.{entries}
use Rattle.kernel.proofs.Grown.{next_pool_fits, small_grown, few_grown}
use Rattle.kernel.proofs.layout.Layout.add_pool.Goals as goal

pub invariant_of-self-clause-small : goal.invariant_of-self-clause-small
invariant_of-self-clause-small c =
    let fits = next_pool_fits (entries c.args.self.now.pools) c.args.size c.args.count c.in_ok-pool.pool (grind (arith, common_steps)) in
    small_grown _ _ c.in_ok-pool.pool c.push.result c.push.ensures fits.0 c.args.self.now.small

pub invariant_of-self-clause-few : goal.invariant_of-self-clause-few
invariant_of-self-clause-few c =
    let fits = next_pool_fits (entries c.args.self.now.pools) c.args.size c.args.count c.in_ok-pool.pool (grind (arith, common_steps)) in
    few_grown _ _ c.in_ok-pool.pool c.push.result c.push.ensures fits.1 c.args.self.now.few
