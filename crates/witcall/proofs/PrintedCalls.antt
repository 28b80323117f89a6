-- The parts of a call whose output is printed.
use Rattle.std.proofs.Common.{◌≡◌, ℕ, List, Option, Result, Err, map, sym, subst}
use Rattle.canonical_abi.specs.Values.{Value}
use Rattle.canonical_abi.specs.Guest.{Memory}
use Rattle.canonical_abi.specs.Call.{Run, PostRun, CallState, exact}
use Rattle.canonical_abi.specs.Session.{TypedCall}
use Rattle.canonical_abi.specs.declared.trap.Fault.{Fault}
use Rattle.canonical_abi.specs.declared.trap.Fault.TheVariants as fault
use Rattle.values.specs.Val.{value_of}
use Rattle.values.specs.declared.val.Val.{Val}
use Rattle.tables.specs.Closed.{function_at, function_type}
use Rattle.tables.specs.Names.{IsNamed}
use Rattle.tables.specs.declared.tables.FunctionId.{FunctionId}
use Rattle.tables.specs.declared.tables.Resolve.{Resolve}
use Rattle.memory.specs.Space.{spaces}
use Rattle.witcall.specs.Calling.{NamesCall, CallAnswers, RunCallRefuses, IsBeforeCall, fresh}
use Rattle.package_values.specs.Json.{IsArrayTextOf}
use Rattle.adapter.specs.Signature.{function_signature}
use Rattle.witcall.specs.Status.{refusal_of}

-- the words ask for the call of this function with the values that were read and handed on
pub asks : (r : Resolve) (iface func args : List ℕ) (f : FunctionId) (values handed : List Val) → IsNamed r iface func f
    → IsArrayTextOf r (function_signature (function_at r f)).params args (map value_of values) → handed ≡ values → NamesCall r iface func args f (map value_of handed)
asks r iface func args f values handed named read same =
    record { named = named; are_read = subst (λ vs. IsArrayTextOf r (function_signature (function_at r f)).params args (map value_of vs)) (sym same) read }

-- a typed call over memories that are fresh
pub answers : (runs : Run) (posts : PostRun) (state after : List ℕ) (r : Resolve) (f : FunctionId)
    (vs : List Value) (answer : Result (Option Value) Fault) (caller callee caller' callee' : Memory)
    → caller ≡ fresh 65536 1048576 → callee ≡ fresh 65536 1048576
    → TypedCall (spaces runs posts) exact (function_type r f) vs (record { caller = caller; callee = callee; body = state }) answer (record { caller = caller'; callee = callee'; body = after })
    → CallAnswers r f vs runs posts state answer after
answers runs posts state after r f vs answer caller callee caller' callee' same_caller same_callee called =
    let new : CallState = record { caller = caller'; callee = callee'; body = after } in
    let own_caller = subst (λ m. TypedCall (spaces runs posts) exact (function_type r f) vs (record { caller = m; callee = callee; body = state }) answer new) same_caller called in
    (caller', callee', subst (λ m. TypedCall (spaces runs posts) exact (function_type r f) vs (record { caller = fresh 65536 1048576; callee = m; body = state }) answer new) same_callee own_caller)

-- a fault of the call, as a refusal
pub call-refuses : (r : Resolve) (iface func args : List ℕ) (f : FunctionId) (vs : List Value) (runs : Run) (posts : PostRun) (state after : List ℕ) (e : Fault)
    → NamesCall r iface func args f vs → CallAnswers r f vs runs posts state (Err e) after
    → RunCallRefuses r iface func args runs posts state after (refusal_of e)
call-refuses r iface func args f vs runs posts state after (fault.Trap t) asked answers = (f, vs, asked, answers)
call-refuses r iface func args f vs runs posts state after fault.NoMemory asked answers = (f, vs, asked, (Err fault.NoMemory, answers, tt))

-- such a refusal does not come before the call
pub not-before : (e : Fault) (A : Type 0) → IsBeforeCall (refusal_of e) → A
not-before (fault.Trap t) A never = absurd never
not-before fault.NoMemory A never = absurd never
