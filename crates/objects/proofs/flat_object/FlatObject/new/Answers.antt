use Rattle.tables.specs.Drawing.{flat_drawing}
use Rattle.objects.proofs.FlatDrawn.{flat_as_drawn}
use Rattle.objects.proofs.flat_object.FlatObject.new.Goals as goal

pub returns-clause-drawn : goal.returns-clause-drawn
returns-clause-drawn c = rw (← c.flat.ensures) (flat_as_drawn (flat_drawing c.flat.result))
