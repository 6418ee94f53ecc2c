-- The number of each refusal.
use Rattle.std.specs.Prelude.{ℕ}
use Rattle.terms.specs.declared.refusal.Refusal.{Refusal}
use Rattle.terms.specs.declared.refusal.Refusal.TheVariants.{Words, Signal, Object, Pool, Length, File, Form, Value, Full, NoFrame, NoPlace, NotLive, NothingDeferred}
use Rattle.terms.specs.declared.table.TableFault.{TableFault}
use Rattle.terms.specs.declared.table.TableFault.TheVariants as table

abbrev pub number_of : Refusal → ℕ
-- more words than the largest pool's size, or no pool
number_of Words = 1
-- a signal outside 1 to 64
number_of Signal = 2
-- an object outside 1 to n
number_of Object = 3
-- a pool outside the limits
number_of Pool = 4
-- a queue's or a deferral queue's length out of range
number_of Length = 5
-- a file too long, or not empty and without a last line feed
number_of File = 6
-- a line's form: its length, letter, numbers, count of numbers, or part
number_of Form = 7
-- another value out of range, or not declared
number_of Value = 8
-- a full table
number_of Full = 9
-- no free frame
number_of NoFrame = 21
-- no free place in a queue
number_of NoPlace = 22
-- a claim that is not live here
number_of NotLive = 23
-- nothing deferred to recall
number_of NothingDeferred = 24

-- the refusal that each fault of a table is
abbrev pub table_refusal_of : TableFault → Refusal
table_refusal_of table.Full = Full
table_refusal_of table.Value = Value
