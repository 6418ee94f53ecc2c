-- The set-up of a kernel, and what each set-up call makes of it.
use Rattle.std.specs.Prelude.{ℕ, Bool, cond, ◌&&◌, List, [], ◌∷◌, ◌++◌, length, replicate, Some, None, Ok, Err, Option, Result, ◌==◌, nat_le, nat_lt}
use Rattle.terms.specs.declared.object_set.ObjectSet.{ObjectSet}
use Rattle.terms.specs.Entries.{entries, values, replaced, changed}
use Rattle.terms.specs.Ranges.{between}
use Rattle.terms.specs.Sets.{joins}
use Rattle.kernel.specs.Pools.{next_pool}
use Rattle.kernel.specs.declared.layout.Pool as the-pool
use Rattle.kernel.specs.declared.layout.Lengths.{Lengths}
use Rattle.kernel.specs.declared.layout.Layout.{Layout}
use Rattle.kernel.specs.declared.discipline.Discipline.{Discipline}
use Rattle.kernel.specs.declared.discipline.Discipline.TheVariants.{Strict, Rotating}
use Rattle.kernel.specs.declared.fault.SetupFault.{SetupFault}
use Rattle.kernel.specs.declared.fault.SetupFault.TheVariants.{Object, Signal, Pool, Length, Value}

-- pools in the order in which they were added, lengths by object, subscribers by signal
pub record Plan : Type 0 where
  pub objects : ℕ
  pub pools : List the-pool.Pool
  pub lengths : List Lengths
  pub subscribers : List ObjectSet

abbrev pub plan : Layout → Plan
plan l = record { objects = l.objects; pools = entries l.pools; lengths = values l.lengths; subscribers = values l.subscribers }

-- before any set-up call: queues of four places, no deferral
abbrev pub blank : ℕ → Plan
blank n = record { objects = n; pools = []; lengths = replicate 8 (record { queue = 4; deferral = 0 }); subscribers = replicate 64 (record { bits = 0 }) }

-- at most three pools: a fourth is refused as a pool outside the limits is
abbrev pub with_next : Plan → Option the-pool.Pool → Result Plan SetupFault
with_next p None = Err Pool
with_next p (Some pool) = cond (nat_lt (length p.pools) 3) (Ok (record p { pools = (p.pools ++ pool ∷ []) })) (Err Pool)

abbrev pub add_pool : Plan → ℕ → ℕ → Result Plan SetupFault
add_pool p size count = with_next p (next_pool p.pools size count)

-- the object of that number, if the cell has it
abbrev pub object_of : Plan → ℕ → Option ℕ
object_of p n = cond (between 1 n p.objects) (Some n) None

-- 1 to 16 places in the queue, 0 to 8 in the deferral queue
abbrev pub lengths_fit : ℕ → ℕ → Bool
lengths_fit queue deferral = between 1 queue 16 && nat_le deferral 8

-- the object first, then the lengths
abbrev pub set_lengths : Plan → ℕ → ℕ → ℕ → Result Plan SetupFault
set_lengths p object queue deferral =
    cond (between 1 object p.objects)
    (cond (lengths_fit queue deferral) (Ok (record p { lengths = replaced p.lengths object (record { queue = queue; deferral = deferral }) })) (Err Length))
    (Err Object)

abbrev pub discipline_of : ℕ → Result Discipline SetupFault
discipline_of n = cond (n == 0) (Ok Strict) (cond (n == 1) (Ok Rotating) (Err Value))

-- the object first, then the signal
abbrev pub subscribed : Plan → ℕ → ℕ → Result Plan SetupFault
subscribed p object signal =
    cond (between 1 object p.objects)
    (cond (between 1 signal 64) (Ok (record p { subscribers = changed p.subscribers signal (joins object) })) (Err Signal))
    (Err Object)
