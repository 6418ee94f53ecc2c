use Rattle.std.proofs.Common.{take}
use Rattle.std.specs.Fmt.{HasWritten, IsPlainFormatter}
use Rattle.scenario.specs.Listings.{frames_text}
use Rattle.scenario.proofs.listing.FramesDisplay.fmt.Given as goal

abbrev pub invariant-loop-pool : goal.invariant-loop-pool
invariant-loop-pool g l =
    IsPlainFormatter l.fn.f → HasWritten g.W.Write.write_str_gives l.fn.f (frames_text (take l.pool-index l.pool-items)) l.f
