-- The refusal that each set-up fault is.
use Rattle.terms.specs.declared.refusal.Refusal.{Refusal}
use Rattle.terms.specs.declared.refusal.Refusal.TheVariants as refusal
use Rattle.kernel.specs.declared.fault.SetupFault.{SetupFault}
use Rattle.kernel.specs.declared.fault.SetupFault.TheVariants.{Object, Signal, Pool, Length, Value}

abbrev pub refusal_of : SetupFault → Refusal
refusal_of Object = refusal.Object
refusal_of Signal = refusal.Signal
refusal_of Pool = refusal.Pool
refusal_of Length = refusal.Length
refusal_of Value = refusal.Value
