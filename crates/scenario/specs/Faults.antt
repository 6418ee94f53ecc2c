-- The layer and the refusal of a scenario file's fault.
use Rattle.std.specs.Prelude.{ℕ, List, [], ◌∷◌}
use Rattle.terms.specs.Refusals.{table_refusal_of, number_of}
use Rattle.terms.specs.declared.refusal.Refusal.{Refusal}
use Rattle.terms.specs.declared.refusal.Refusal.TheVariants as refusal
use Rattle.kernel.specs.Faults as setup
use Rattle.scenario.specs.Format.{written}
use Rattle.scenario.specs.declared.fault.Cause.{Cause}
use Rattle.scenario.specs.declared.fault.Cause.TheVariants.{File, Line, Tables, Setup, Script}
use Rattle.scenario.specs.declared.fault.Fault.{Fault}
use Rattle.scenario.specs.declared.fault.ScriptFault.{ScriptFault}
use Rattle.scenario.specs.declared.fault.ScriptFault.TheVariants.{Signal, Words, Object}

-- 1 file, 2 line form, 3 tables, 4 set-up, 5 script
abbrev pub layer_of : Cause → ℕ
layer_of (File f) = 1
layer_of (Line f) = 2
layer_of (Tables f) = 3
layer_of (Setup f) = 4
layer_of (Script f) = 5

abbrev pub script_refusal_of : ScriptFault → Refusal
script_refusal_of Signal = refusal.Signal
script_refusal_of Words = refusal.Words
script_refusal_of Object = refusal.Object

-- the inner layer's refusal, as it is
abbrev pub refusal_of : Cause → Refusal
refusal_of (File f) = refusal.File
refusal_of (Line f) = refusal.Form
refusal_of (Tables f) = table_refusal_of f
refusal_of (Setup f) = setup.refusal_of f
refusal_of (Script f) = script_refusal_of f

-- `! layer number line`
abbrev pub fault_text : Fault → List ℕ
fault_text f = written 33 (layer_of f.cause ∷ number_of (refusal_of f.cause) ∷ f.line ∷ [])
