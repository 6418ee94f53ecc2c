use Rattle.std.proofs.Common.{arith}
use Rattle.std.proofs.lemmas.Grind.{common_steps}
use Rattle.kernel.specs.Plan.{plan}
use Rattle.kernel.proofs.Subscribed.{subscribed_there}
use Rattle.kernel.proofs.layout.Layout.subscribe.Goals as goal

pub returns : goal.returns
returns c =
    let some = subscribed_there (plan c.args.self.now) c.args.object c.args.signal c.in_ok-heard.heard (grind (arith, common_steps)) c.get.ensures.count (grind (arith, common_steps)) in
    grind (arith, common_steps)
