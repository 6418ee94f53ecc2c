use Rattle.std.proofs.Common.{◌≡◌, take}
use Rattle.terms.specs.Events.{content}
use Rattle.scenario.proofs.script_line.event_of.Given as goal

abbrev pub invariant-loop-word : goal.invariant-loop-word
invariant-loop-word l = content l.event ≡ record { signal = l.fn.signal; words = take l.word-index l.words }
