-- What each line of a scenario file means, by its letter and its numbers.
use Rattle.std.specs.Prelude.{ℕ, cond, List, length, drop, Ok, Err, Result, ◌==◌, nat_le, slice_index}
use Rattle.terms.specs.Events.{Content}
use Rattle.terms.specs.Ranges.{between}
use Rattle.terms.specs.declared.table.TableFault.{TableFault}
use Rattle.kernel.specs.Pools.{some_holds}
use Rattle.kernel.specs.Plan.{Plan, add_pool, set_lengths, subscribed, discipline_of}
use Rattle.kernel.specs.declared.discipline.Discipline.{Discipline}
use Rattle.kernel.specs.declared.fault.SetupFault.{SetupFault}
use Rattle.tables.specs.Drawing.{Drawing, add_send, add_state, set_initial, add_row, add_flat_row, set_marks, add_transition, set_arc}
use Rattle.scenario.specs.Cell.{Settings, Order, post, post_front, publish, recycle, dispatch}
use Rattle.scenario.specs.declared.fault.Cause.{Cause}
use Rattle.scenario.specs.declared.fault.Cause.TheVariants as cause
use Rattle.scenario.specs.declared.fault.LineFault.TheVariants.{Form}
use Rattle.scenario.specs.declared.fault.ScriptFault.{ScriptFault}
use Rattle.scenario.specs.declared.fault.ScriptFault.TheVariants.{Signal, Words, Object}

-- the k-th number of a line, counted from 0
abbrev pub field : List ℕ → ℕ → ℕ
field ns k = slice_index ns k

-- a fault of form, 7
abbrev pub misshapen : {X : Type 0} → Result X Cause
misshapen = Err (cause.Line Form)

-- a line that has just so many numbers
abbrev pub exactly : {X : Type 0} → ℕ → List ℕ → Result X Cause → Result X Cause
exactly k ns r = cond (length ns == k) r misshapen

-- a fault of a layer, carried whole
abbrev pub by_setup : {X Y : Type 0} → (X → Y) → Result X SetupFault → Result Y Cause
by_setup f (Ok x) = Ok (f x)
by_setup f (Err e) = Err (cause.Setup e)

abbrev pub by_tables : {X : Type 0} → Result X TableFault → Result X Cause
by_tables (Ok x) = Ok x
by_tables (Err e) = Err (cause.Tables e)

abbrev pub with_plan : Settings → Plan → Settings
with_plan s p = record { plan = p; discipline = s.discipline }

abbrev pub with_discipline : Settings → Discipline → Settings
with_discipline s d = record { plan = s.plan; discipline = d }

-- P 80: size count; Q 81: object length deferral; S 83: object signal; W 87: 0 strict, 1 rotating
abbrev pub setup_line : Settings → ℕ → List ℕ → Result Settings Cause
setup_line s l ns =
    cond (l == 80) (exactly 2 ns (by_setup (with_plan s) (add_pool s.plan (field ns 0) (field ns 1))))
    (cond (l == 81) (exactly 3 ns (by_setup (with_plan s) (set_lengths s.plan (field ns 0) (field ns 1) (field ns 2))))
    (cond (l == 83) (exactly 2 ns (by_setup (with_plan s) (subscribed s.plan (field ns 0) (field ns 1))))
    (cond (l == 87) (exactly 1 ns (by_setup (with_discipline s) (discipline_of (field ns 0)))) misshapen)))

-- D 68: kind object signal word; H 72: parent entry exit; I 73: state target
-- R 82: state signal guard value kind target send; F 70: state signal kind next send
-- N 78: place marks; T 84: signal send; A 65: transition place take give
abbrev pub table_line : Drawing → ℕ → List ℕ → Result Drawing Cause
table_line d l ns =
    cond (l == 68) (exactly 4 ns (by_tables (add_send d (field ns 0) (field ns 1) (field ns 2) (field ns 3))))
    (cond (l == 72) (exactly 3 ns (by_tables (add_state d (field ns 0) (field ns 1) (field ns 2))))
    (cond (l == 73) (exactly 2 ns (by_tables (set_initial d (field ns 0) (field ns 1))))
    (cond (l == 82) (exactly 7 ns (by_tables (add_row d (record { state = field ns 0; signal = field ns 1; guard = field ns 2; value = field ns 3; kind = field ns 4; target = field ns 5; send = field ns 6 }))))
    (cond (l == 70) (exactly 5 ns (by_tables (add_flat_row d (field ns 0) (field ns 1) (field ns 2) (field ns 3) (field ns 4))))
    (cond (l == 78) (exactly 2 ns (by_tables (set_marks d (field ns 0) (field ns 1))))
    (cond (l == 84) (exactly 2 ns (by_tables (add_transition d (field ns 0) (field ns 1))))
    (cond (l == 65) (exactly 4 ns (by_tables (set_arc d (field ns 0) (field ns 1) (field ns 2) (field ns 3)))) misshapen)))))))

-- a line that has so many numbers or more
abbrev pub at_least : {X : Type 0} → ℕ → List ℕ → Result X Cause → Result X Cause
at_least k ns r = cond (nat_le k (length ns)) r misshapen

abbrev pub by_script : {X Y : Type 0} → (X → Y) → Result X ScriptFault → Result Y Cause
by_script f (Ok x) = Ok (f x)
by_script f (Err e) = Err (cause.Script e)

-- the signal first, 2, then the words, 1: some pool has to hold them
unfoldable pub event_of : Plan → ℕ → List ℕ → Result Content ScriptFault
event_of p signal words =
    cond (between 1 signal 64) (cond (some_holds p.pools (length words)) (Ok (record { signal = signal; words = words })) (Err Words)) (Err Signal)

unfoldable pub object_of : Plan → ℕ → Result ℕ ScriptFault
object_of p object = cond (between 1 object p.objects) (Ok object) (Err Object)

-- an event for an object, whose number is looked at last, 3
abbrev pub addressed : (ℕ → Content → Order) → Result Content ScriptFault → Result ℕ ScriptFault → Result Order Cause
addressed make (Err f) o = Err (cause.Script f)
addressed make (Ok e) (Err f) = Err (cause.Script f)
addressed make (Ok e) (Ok o) = Ok (make o e)

-- p 112: object signal words; f 102: the same in front; b 98: signal words; r 114: signal words; g 103: times
abbrev pub script_line : Plan → ℕ → List ℕ → Result Order Cause
script_line p l ns =
    cond (l == 112) (at_least 2 ns (addressed post (event_of p (field ns 1) (drop 2 ns)) (object_of p (field ns 0))))
    (cond (l == 102) (at_least 2 ns (addressed post_front (event_of p (field ns 1) (drop 2 ns)) (object_of p (field ns 0))))
    (cond (l == 98) (at_least 1 ns (by_script publish (event_of p (field ns 0) (drop 1 ns))))
    (cond (l == 114) (at_least 1 ns (by_script recycle (event_of p (field ns 0) (drop 1 ns))))
    (cond (l == 103) (exactly 1 ns (Ok (dispatch (field ns 0)))) misshapen))))
