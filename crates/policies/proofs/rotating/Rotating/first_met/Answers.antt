use Rattle.std.proofs.Common.{ℕ, ◌+◌, ◌-◌, sym, ap, ◌∙◌}
use Rattle.policies.specs.Picks.{first_met}
use Rattle.policies.proofs.Round.{met_start, met_more, met_here, met_all}
use Rattle.policies.proofs.rotating.Rotating.first_met.Goals as goal

pub loop-init : goal.loop-init
loop-init c = met_start c.args.self.now.turn c.args.set.bits c.args.self.now.least c.args.self.now.most

pub returns-then-contains : goal.returns-then-contains
returns-then-contains c =
    sym (c.loop.invariant ∙ met_here c.loop.counter c.loop.object c.args.set.bits c.loop-test.true (sym c.contains.ensures ∙ c.if-contains.true))

pub loop-preserved : goal.loop-preserved
loop-preserved c =
    c.loop.invariant ∙ met_more c.loop.counter c.loop.object c.args.set.bits c.loop-test.true (sym c.contains.ensures ∙ c.if-contains.false)
    ∙ ap (λ (o : ℕ). first_met (8 - (c.loop.counter + 1)) o c.args.set.bits) (sym c.next-object.ensures.after)

pub returns : goal.returns
returns c = sym (c.loop.invariant ∙ met_all c.loop.counter c.loop.object c.args.set.bits c.loop-test.false)
