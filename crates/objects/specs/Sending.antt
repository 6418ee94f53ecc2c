-- The sends that a table names by number.
use Rattle.std.specs.Prelude.{ℕ, List, Option}
use Rattle.std.specs.Option.{option_to_list, option_and_then}
use Rattle.terms.specs.Entries.{numbered}
use Rattle.terms.specs.declared.send.Send.{Send}

-- the send with a number, if there is one
abbrev pub send_named : List Send → Option ℕ → Option Send
send_named sends number = option_and_then (numbered sends) number

-- that send as a list, empty if there is none
abbrev pub sends_of : List Send → Option ℕ → List Send
sends_of sends number = option_to_list (send_named sends number)
