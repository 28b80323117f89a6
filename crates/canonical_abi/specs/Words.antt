-- The words by which the end of a call is printed: a trap with its kind and its step, or that the host is out of memory.
use Rattle.std.specs.Prelude.{ℕ, List, ◌++◌, codes}
use Rattle.canonical_abi.specs.declared.trap.Fault.{Fault}
use Rattle.canonical_abi.specs.declared.trap.Fault.TheVariants as fault
use Rattle.canonical_abi.specs.declared.trap.Step.{Step}
use Rattle.canonical_abi.specs.declared.trap.Step.TheVariants as step
use Rattle.canonical_abi.specs.declared.trap.Trap.{Trap}
use Rattle.canonical_abi.specs.declared.trap.TrapKind.{TrapKind}
use Rattle.canonical_abi.specs.declared.trap.TrapKind.TheVariants as kind

-- a trap's kind by its number and its name, as it is printed
abbrev pub kind_words : TrapKind → List ℕ
kind_words kind.Char = codes "K1 char"
kind_words kind.Case = codes "K2 case"
kind_words kind.Align = codes "K3 align"
kind_words kind.Bounds = codes "K4 bounds"
kind_words kind.Utf8 = codes "K5 utf8"
kind_words kind.Full = codes "K6 full"
kind_words kind.Body = codes "K7 body"
kind_words kind.CoreSignature = codes "K8 coresignature"

-- the name of a step of a call, as it is printed
abbrev pub step_words : Step → List ℕ
step_words step.Place = codes "place"
step_words step.Take = codes "take"
step_words step.LiftArgs = codes "lift-args"
step_words step.LowerArgs = codes "lower-args"
step_words step.Body = codes "body"
step_words step.LiftResult = codes "lift-result"
step_words step.LowerResult = codes "lower-result"
step_words step.Post = codes "post"

-- a trap's kind and the step in which it came
abbrev pub trap_words : Trap → List ℕ
trap_words t = codes "trap " ++ kind_words t.kind ++ codes " in " ++ step_words t.step

-- the program's line for a fault: a trap, or out of memory
abbrev pub fault_words : Fault → List ℕ
fault_words (fault.Trap t) = trap_words t
fault_words fault.NoMemory = codes "error 66 no memory"
