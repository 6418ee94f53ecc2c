-- The limits of a scenario.
use Rattle.std.specs.Prelude.{◌≡◌, true, length}
use Rattle.std.specs.List.{AllByRecursion}
use Rattle.terms.specs.Events.{Content}
use Rattle.kernel.specs.Limits.{PlanWithin}
use Rattle.kernel.specs.Pools.{some_holds}
use Rattle.kernel.specs.Plan.{Plan}
use Rattle.tables.specs.Limits.{DrawingWithin, From1To}
use Rattle.scenario.specs.Cell.{Cell, Order, post, post_front, publish, recycle, dispatch}

-- a signal from 1 to 64, and words that some pool holds
pub record EventWithin (p : Plan) (e : Content) : Type 0 where
  pub signal : From1To 64 e.signal
  pub words : some_holds p.pools (length e.words) ≡ true

-- an event for an object of the cell, or for whoever hears it, or for nobody
abbrev pub OrderWithin : Plan → Order → Type 0
OrderWithin p (post object e) = From1To p.objects object × EventWithin p e
OrderWithin p (post_front object e) = From1To p.objects object × EventWithin p e
OrderWithin p (publish e) = EventWithin p e
OrderWithin p (recycle e) = EventWithin p e
OrderWithin p (dispatch times) = Unit {0}

pub record CellWithin (c : Cell) : Type 0 where
  pub three : c.settings.plan.objects ≡ 3
  pub plan : PlanWithin c.settings.plan
  pub drawing : DrawingWithin c.drawing
  pub script : AllByRecursion (OrderWithin c.settings.plan) c.script
