-- Numbered values: what slots and a table hold, and what adding and replacing leave.
use Rattle.std.specs.Prelude.{ℕ, zero, suc, Bool, false, cond, List, [], ◌∷◌, ◌++◌, length, take, Some, None, Ok, Err, Option, Result, nat_lt, slice_set}
use Rattle.std.specs.List.{slice_get}
use Rattle.terms.specs.declared.slots.Slots.{Slots}
use Rattle.terms.specs.declared.table.Table.{Table}
use Rattle.terms.specs.declared.table.TableFault.{TableFault}
use Rattle.terms.specs.declared.table.TableFault.TheVariants.{Full, Value}

-- the values of slots, in the order of their numbers
abbrev pub values : {T : Type 0} {N : ℕ} → Slots T N → List T
values s = s.values

-- the entries of a table, in the order in which they were added
abbrev pub entries : {T : Type 0} {N : ℕ} → Table T N → List T
entries t = take t.len t.places

-- the value with a number, counted from 1: none has the number 0
abbrev pub numbered : {T : Type 0} → List T → ℕ → Option T
numbered xs zero = None
numbered xs (suc n) = slice_get xs n

-- some value has the number
abbrev pub among : {T : Type 0} → List T → ℕ → Bool
among xs zero = false
among xs (suc n) = nat_lt n (length xs)

-- another value in the place of the one with a number, if there is one
abbrev pub replaced : {T : Type 0} → List T → ℕ → T → List T
replaced xs zero x = xs
replaced xs (suc n) x = slice_set xs n x

-- the value with a number made into another, if there is one
abbrev pub changed : {T : Type 0} → List T → ℕ → (T → T) → List T
changed xs zero f = xs
changed [] (suc n) f = []
changed (x ∷ xs) (suc zero) f = f x ∷ xs
changed (x ∷ xs) (suc (suc n)) f = x ∷ changed xs (suc n) f

-- an entry behind the others; a faulty one is None
abbrev pub last_of : {T : Type 0} → List T → Option T → Result (List T) TableFault
last_of xs None = Err Value
last_of xs (Some x) = Ok (xs ++ x ∷ [])

-- a table of at most N entries with one more, which goes last: a full table is refused before a faulty entry
abbrev pub added : {T : Type 0} → ℕ → List T → Option T → Result (List T) TableFault
added N xs x = cond (nat_lt (length xs) N) (last_of xs x) (Err Full)
