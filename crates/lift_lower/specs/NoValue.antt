-- What a function answered, beside what the definitions read.
use Rattle.std.specs.Prelude.{◌≡◌, Result, Ok, Err}
use Rattle.canonical_abi.specs.declared.trap.Fault.{Fault}
use Rattle.canonical_abi.specs.declared.trap.Fault.TheVariants as ended
use Rattle.canonical_abi.specs.declared.trap.Step.{Step}
use Rattle.canonical_abi.specs.declared.trap.TrapKind.{TrapKind}
use Rattle.lift_lower.specs.declared.no_value.NoValue.{NoValue}
use Rattle.lift_lower.specs.declared.no_value.NoValue.TheVariants as no_value

-- the fault of a call, of a trap in this step or of a host out of memory
abbrev pub fault_in_step : Step → NoValue → Fault
fault_in_step step (no_value.Trap k) = ended.Trap (record { kind = k; step = step })
fault_in_step step no_value.NoMemory = ended.NoMemory

-- a function failed with the fault that is read, or is out of memory
abbrev pub FailsAs : {Y : Type 0} → NoValue → Result Y TrapKind → Type 0
FailsAs no_value.NoMemory read = Unit {0}
FailsAs (no_value.Trap k) read = read ≡ Err k

-- what a function answered, seen by view, is what is read, unless memory was wanting
abbrev pub AnswersAs : {X Y : Type 0} → (X → Y) → Result X NoValue → Result Y TrapKind → Type 0
AnswersAs view (Ok x) read = read ≡ Ok (view x)
AnswersAs view (Err e) read = FailsAs e read

-- a function answered a value that P allows, a trap in this step that F allows, or out of memory
abbrev pub AnswerStands : {X : Type 0} → Step → (X → Type 0) → (TrapKind → Type 0) → Result X Fault → Type 0
AnswerStands step P F (Ok x) = P x
AnswerStands step P F (Err (ended.Trap t)) = (t.step ≡ step) × F t.kind
AnswerStands step P F (Err ended.NoMemory) = Unit {0}
