use Rattle.terms.proofs.SameSlots.{filled_is}
use Rattle.tables.proofs.tables.blank_transition.Goals as goal

pub returns : goal.returns
returns c i =
    record {
      signal = c.args.signal;
      send = c.args.send;
      takes = filled_is c.new.result 0 c.new.ensures i;
      gives = filled_is c.new-2.result 0 c.new-2.ensures i;
    }
