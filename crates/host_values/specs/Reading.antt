-- CanonicalABI.md, "Lifting and Lowering Values": what the core values of an answer say, in a memory of a host's own.
use Rattle.std.specs.Prelude.{◌≡◌, ◌≤◌, ℕ, List, map}
use Rattle.canonical_abi.specs.Flat.{Denotes, DenotesFault}
use Rattle.canonical_abi.specs.Layout.{max_flat_results}
use Rattle.canonical_abi.specs.Requests.{fields_requests}
use Rattle.canonical_abi.specs.Types.{FunctionType, result_fields}
use Rattle.canonical_abi.specs.Values as Semantic
use Rattle.canonical_abi.specs.declared.flat.Flat.{Flat}
use Rattle.canonical_abi.specs.declared.trap.Fault.{Fault}
use Rattle.canonical_abi.specs.declared.trap.Fault.TheVariants.{Trap, NoMemory}
use Rattle.canonical_abi.specs.declared.trap.Step.TheVariants.{Take}
use Rattle.adapter.specs.Asking.{total}
use Rattle.host_calls.specs.Calling.{AnswerCanBeRead, LeaveAsksNot}
use Rattle.host_calls.specs.Values.{flat_of}
use Rattle.host_calls.specs.declared.error.CallError.{CallError}
use Rattle.host_calls.specs.declared.error.CallError.TheVariants as error
use Rattle.host_calls.specs.declared.value.Value.{Value}

-- the core values of the answer denote these values, of which there is one, or none where the function has no result
abbrev pub IsReadResult : FunctionType → List Value → List ℕ → List Semantic.Value → Type 0
IsReadResult f answer memory vs =
    AnswerCanBeRead f answer memory × Denotes max_flat_results (result_fields f.result) memory (map flat_of answer) vs

-- the values that the answer denotes ask for at most so many bytes
abbrev pub AsksWithin : FunctionType → List Value → List ℕ → ℕ → Type 0
AsksWithin f answer memory limit =
    (vs : List Semantic.Value) × Denotes max_flat_results (result_fields f.result) memory (map flat_of answer) vs
    × (total (fields_requests (result_fields f.result) vs) ≤ limit)

-- a fault of the answer, found in `take`, or want of the host's memory
abbrev pub IsResultFault : FunctionType → List Flat → List ℕ → Fault → Type 0
IsResultFault f flats memory (Trap t) = (t.step ≡ Take) × DenotesFault max_flat_results (result_fields f.result) memory flats t.kind
IsResultFault f flats memory NoMemory = Unit {0}

-- why no value was read: the reasons for which its requests are not told, or the host has no memory for it
abbrev pub ResultIsNotRead : FunctionType → List Value → List ℕ → ℕ → CallError → Type 0
ResultIsNotRead f answer memory limit (error.Fault NoMemory) = Unit {0}
ResultIsNotRead f answer memory limit e = LeaveAsksNot f answer memory limit e
