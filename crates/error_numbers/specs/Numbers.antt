-- The numbers of traps and steps (docs/ERRORS.md).
use Rattle.std.specs.Prelude.{ℕ}
use Rattle.canonical_abi.specs.declared.trap.Fault.{Fault}
use Rattle.canonical_abi.specs.declared.trap.Fault.TheVariants as fault
use Rattle.canonical_abi.specs.declared.trap.Step.{Step}
use Rattle.canonical_abi.specs.declared.trap.Step.TheVariants.{Place, Take, LiftArgs, LowerArgs, Body, LiftResult, LowerResult, Post}
use Rattle.canonical_abi.specs.declared.trap.Trap.{Trap}
use Rattle.canonical_abi.specs.declared.trap.TrapKind.{TrapKind}
use Rattle.canonical_abi.specs.declared.trap.TrapKind.TheVariants as kind

-- K1 to K8
abbrev pub kind_number : TrapKind → ℕ
kind_number kind.Char = 1
kind_number kind.Case = 2
kind_number kind.Align = 3
kind_number kind.Bounds = 4
kind_number kind.Utf8 = 5
kind_number kind.Full = 6
kind_number kind.Body = 7
kind_number kind.CoreSignature = 8

-- the steps of a call in their order, after those of a host of this library's own
abbrev pub step_number : Step → ℕ
step_number Place = 0
step_number Take = 1
step_number LiftArgs = 2
step_number LowerArgs = 3
step_number Body = 4
step_number LiftResult = 5
step_number LowerResult = 6
step_number Post = 7

-- the number of a trap is that of its kind
abbrev pub trap_number : Trap → ℕ
trap_number t = kind_number t.kind

-- 66 if the host is out of memory
abbrev pub fault_number : Fault → ℕ
fault_number (fault.Trap t) = trap_number t
fault_number fault.NoMemory = 66
