-- What an event says: its signal and its words.
use Rattle.std.specs.Prelude.{ℕ, List}
use Rattle.terms.specs.Entries.{entries}
use Rattle.terms.specs.declared.event.Event.{Event}

pub record Content : Type 0 where
  pub signal : ℕ
  pub words : List ℕ

abbrev pub content : Event → Content
content e = record { signal = e.signal; words = entries e.words }
