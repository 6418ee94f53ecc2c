-- Tables are within their limits in one way only: so the limits can be an invariant of the type.
use Rattle.std.specs.Prelude.{ℕ}
use Rattle.std.proofs.Props.{props}
use Rattle.terms.specs.declared.send.Send.{Send}
use Rattle.terms.specs.declared.send.Send.TheVariants.{Post, Publish, Recall}
use Rattle.tables.specs.Drawing.{Drawing}
use Rattle.tables.specs.Limits.{SendWithin, ActionWithin, FlatActionWithin, DrawingWithin}
use Rattle.tables.specs.declared.chart.Action.{Action}
use Rattle.tables.specs.declared.chart.Action.TheVariants as action
use Rattle.tables.specs.declared.flat.FlatAction.{FlatAction}
use Rattle.tables.specs.declared.flat.FlatAction.TheVariants as flat

SendWithin-prop : (s : Send) → IsProp (SendWithin s)
SendWithin-prop (Post object signal word) = Prim.hlevel props
SendWithin-prop (Publish signal word) = Prim.hlevel props
SendWithin-prop Recall = Prim.hlevel props

ActionWithin-prop : (sends states : ℕ) (a : Action) → IsProp (ActionWithin sends states a)
ActionWithin-prop sends states (action.Move target send) = Prim.hlevel props
ActionWithin-prop sends states (action.Stay send) = Prim.hlevel props
ActionWithin-prop sends states action.Defer = Prim.hlevel props

FlatActionWithin-prop : (sends : ℕ) (a : FlatAction) → IsProp (FlatActionWithin sends a)
FlatActionWithin-prop sends (flat.Move next send) = Prim.hlevel props
FlatActionWithin-prop sends flat.Defer = Prim.hlevel props

pub DrawingWithin-prop : (d : Drawing) → IsProp (DrawingWithin d)
DrawingWithin-prop d = Prim.hlevel (props, SendWithin-prop, ActionWithin-prop, FlatActionWithin-prop)
