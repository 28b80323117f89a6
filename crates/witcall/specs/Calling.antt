-- One call whose arguments and result are JSON, over two fresh memories.
use Rattle.std.specs.Prelude.{◌≡◌, ℕ, List, [], ◌∷◌, ◌++◌, Option, Some, None, Result, Ok, Err}
use Rattle.canonical_abi.specs.Values.{Value}
use Rattle.canonical_abi.specs.Guest.{Memory}
use Rattle.canonical_abi.specs.Call.{Run, PostRun, CallState, exact}
use Rattle.canonical_abi.specs.Session.{TypedCall}
use Rattle.memory.specs.Holes.{all_free}
use Rattle.memory.specs.Space.{of_kind, spaces, first_fit_kind}
use Rattle.tables.specs.Closed.{function_at, function_type}
use Rattle.tables.specs.Names.{IsNamed, IsMissing}
use Rattle.tables.specs.declared.tables.FunctionId.{FunctionId}
use Rattle.tables.specs.declared.tables.Resolve.{Resolve}
use Rattle.tables.specs.declared.tables.ValType.{ValType}
use Rattle.canonical_abi.specs.declared.trap.Fault.{Fault}
use Rattle.canonical_abi.specs.declared.trap.Fault.TheVariants as fault
use Rattle.memory.specs.declared.error.MemoryError.TheVariants as memory
use Rattle.witcall.specs.declared.refused.Refused.{Refused}
use Rattle.witcall.specs.declared.refused.Refused.TheVariants as refused
use Rattle.package_values.specs.Json.{IsCompactTextOf, IsArrayTextOf, RefusesArray}
use Rattle.adapter.specs.Signature.{function_signature}

-- a memory of so many zeros that may grow to so many, and takes blocks back; all that is usable is one hole
unfoldable pub fresh : ℕ → ℕ → Memory
fresh len max = of_kind first_fit_kind (all_free len max)

-- the compact JSON of the value and a newline
abbrev pub IsLineOf : Resolve → ValType → Value → List ℕ → Type 0
IsLineOf r t v line = (text : List ℕ) × IsCompactTextOf r t v text × (line ≡ text ++ 10 ∷ [])

-- the line of the result, or nothing where the function has no result
abbrev pub IsOutputOf : Resolve → Option ValType → Option Value → List ℕ → Type 0
IsOutputOf r (Some t) (Some v) output = IsLineOf r t v output
IsOutputOf r None None output = output ≡ []
IsOutputOf r _ _ output = ⊥

-- what a call of the program begins with: two memories of 64 KiB that may grow to 1 MiB, and the body's state
abbrev pub program_state : List ℕ → CallState
program_state state = record { caller = fresh 65536 1048576; callee = fresh 65536 1048576; body = state }

-- the words name this function of the package, and give it these arguments
pub record NamesCall (r : Resolve) (iface func args : List ℕ) (f : FunctionId) (vs : List Value) : Type 0 where
  pub named : IsNamed r iface func f
  pub are_read : IsArrayTextOf r (function_signature (function_at r f)).params args vs

-- a call of the function over two fresh memories, on a body that may make these runs, has this answer; the body is then in the state `after`
abbrev pub CallAnswers : Resolve → FunctionId → List Value → Run → PostRun → (state : List ℕ) → Result (Option Value) Fault → (after : List ℕ) → Type 0
CallAnswers r f vs runs posts state answer after =
    (caller callee : Memory)
    × TypedCall (spaces runs posts) exact (function_type r f) vs (program_state state) answer (record { caller = caller; callee = callee; body = after })

-- the call that the words ask for is made on a body that may make these runs, and this is its output
pub record Prints (r : Resolve) (iface func args : List ℕ) (runs : Run) (posts : PostRun) (state after output : List ℕ) : Type 0 where
  pub function : FunctionId
  pub arguments : List Value
  pub asked : NamesCall r iface func args function arguments
  pub answer : Option Value
  pub called : CallAnswers r function arguments runs posts state (Ok answer) after
  pub printed : IsOutputOf r (function_signature (function_at r function)).result answer output

-- the call came to its end, or memory of the host was wanting in it: it did not trap
abbrev pub IsNoTrap : Result (Option Value) Fault → Type 0
IsNoTrap (Ok v) = Unit {0}
IsNoTrap (Err fault.NoMemory) = Unit {0}
IsNoTrap (Err (fault.Trap t)) = ⊥

-- why the call of a function is refused: a trap of it, or want of the host's memory
abbrev pub CallRefuses : Resolve → FunctionId → List Value → Run → PostRun → (state after : List ℕ) → Refused → Type 0
CallRefuses r f vs runs posts state after (refused.Trap t) = CallAnswers r f vs runs posts state (Err (fault.Trap t)) after
CallRefuses r f vs runs posts state after (refused.Memory e) = e ≡ memory.NoMemory
CallRefuses r f vs runs posts state after refused.NoMemory =
    (answer : Result (Option Value) Fault) × CallAnswers r f vs runs posts state answer after × IsNoTrap answer
CallRefuses r f vs runs posts state after _ = ⊥

-- why the call that the words ask for is refused
abbrev pub RunCallRefuses : Resolve → (iface func args : List ℕ) → Run → PostRun → (state after : List ℕ) → Refused → Type 0
RunCallRefuses r iface func args runs posts state after refused.NoFunction = IsMissing r iface func
RunCallRefuses r iface func args runs posts state after (refused.Json e) =
    (f : FunctionId) × IsNamed r iface func f × RefusesArray r (function_signature (function_at r f)).params args e
RunCallRefuses r iface func args runs posts state after refused.Write = (output : List ℕ) × Prints r iface func args runs posts state after output
RunCallRefuses r iface func args runs posts state after e =
    (f : FunctionId) × (vs : List Value) × NamesCall r iface func args f vs × CallRefuses r f vs runs posts state after e

-- this refusal comes before the call: the body was not run
abbrev pub IsBeforeCall : Refused → Type 0
IsBeforeCall refused.NoFunction = Unit {0}
IsBeforeCall (refused.Json e) = Unit {0}
IsBeforeCall (refused.Memory e) = Unit {0}
IsBeforeCall _ = ⊥
