use Rattle.std.proofs.Common.{◌≡◌, None, sym, ap, ◌∙◌, arith}
use Rattle.std.specs.Option.{option_map}
use Rattle.terms.specs.Entries.{values}
use Rattle.objects.proofs.Marks.{after, fired_not, fired_all}
use Rattle.objects.proofs.firing.fired.Goals as goal

pub returns-in_err-place_after : goal.returns-in_err-place_after
returns-in_err-place_after c =
    let was = c.in_err-place_after.was in
    let none : after (values c.args.marks.now) c.args.transition.now c.loop-place.place ≡ None = cc in
    ap (option_map values) c.from_residual.ensures ∙ sym (fired_not (values c.args.marks.now) c.args.transition.now c.loop-place.place (omega arith) (omega arith) none)

pub returns : goal.returns
returns c = fired_all (values c.args.marks.now) c.args.transition.now c.loop-place.place (values c.loop-place.after) (omega arith) c.loop-place.after.sized c.loop-place.invariant
