-- Arguments and a result as texts of JSON, in memories and arrays of a host's own.
use Rattle.std.specs.Prelude.{◌≡◌, ◌⊎◌, ◌<◌, ◌∷◌, [], ℕ, List, Result, Ok, Err, Option, Some, None, MatchResult}
use Rattle.std.specs.Str.{IsUtf8}
use Rattle.c_border.specs.Functions.{OfFunction}
use Rattle.canonical_abi.specs.Layout.{max_flat_params}
use Rattle.canonical_abi.specs.Requests.{params_requests}
use Rattle.canonical_abi.specs.Values as Semantic
use Rattle.adapter.specs.Asking.{IsToldAhead, total}
use Rattle.adapter.specs.Signature.{function_signature}
use Rattle.adapter.specs.declared.asking.request.Request.{Request}
use Rattle.host_calls.specs.Told.{BytesDone}
use Rattle.host_calls.specs.declared.error.CallError.{CallError}
use Rattle.host_calls.specs.declared.error.CallError.TheVariants as error
use Rattle.host_calls.specs.declared.value.Value.{Value}
use Rattle.host_values.specs.Reading.{IsReadResult, AsksWithin, ResultIsNotRead}
use Rattle.host_values.specs.Requests.{AreNotTold}
use Rattle.memory.specs.declared.block.Block.{Block}
use Rattle.opening.specs.declared.package.Package.{Package}
use Rattle.package_values.specs.Calls.{IsNoText, TextFilled}
use Rattle.package_values.specs.Json.{IsArrayTextOf, IsArrayTextOfNone, IsCompactTextOf, IsTextOfOnly}
use Rattle.serde_json.specs.Read.{read}
use Rattle.tables.specs.Closed.{function_at, function_type}
use Rattle.tables.specs.declared.tables.FunctionId.{FunctionId}
use Rattle.tables.specs.declared.tables.Resolve.{Resolve}
use Rattle.tables.specs.declared.tables.ValType.{ValType}

-- what a call with a text comes to; or its bytes are no UTF-8, so no JSON (61), and nothing was changed
abbrev pub OfText : List ℕ → (Result ℕ CallError → Type 0) → Type 0 → Result ℕ CallError → Type 0
OfText bytes Tells unchanged done = (IsUtf8 bytes × Tells done) ⊎ ((¬ IsUtf8 bytes) × (done ≡ Err error.BadJson) × unchanged)

-- the types of a function's parameters, by their ids in the table
abbrev pub parameters_of : Resolve → FunctionId → List ValType
parameters_of r func = (function_signature (function_at r func)).params

-- Why the blocks that the arguments of a text ask for are not told: the text says none, one block is too large, or those of the arguments have
-- together more bytes than the limit.
abbrev pub AsksNotOfText : Resolve → FunctionId → List ℕ → ℕ → CallError → Type 0
AsksNotOfText r func text limit (error.Fault fault) =
    (vs : List Semantic.Value) × IsArrayTextOf r (parameters_of r func) text vs × AreNotTold (params_requests max_flat_params (function_type r func).params vs) fault
AsksNotOfText r func text limit error.AboveLimit =
    (vs : List Semantic.Value) × IsArrayTextOf r (parameters_of r func) text vs × (limit < total (params_requests max_flat_params (function_type r func).params vs))
AsksNotOfText r func text limit e = IsNoText r (parameters_of r func) text e

-- what a host gets of the requests of a text's arguments: their number, and as many as fit at the front of its array, whose rest stays; or an
-- error, and the array is as it was
abbrev pub AsksOfText : Resolve → FunctionId → List ℕ → ℕ → List Request → Result ℕ CallError → List Request → Type 0
AsksOfText r func text limit old done new = MatchResult done
    (IsToldAhead (IsArrayTextOf r (parameters_of r func) text) (params_requests max_flat_params (function_type r func).params) limit old new)
    (λ e. AsksNotOfText r func text limit e × (new ≡ old))

-- the text of a result of this type is the compact one of its value, which no other value has; without a result it has no bytes
abbrev pub IsResultText : Resolve → Option ValType → List Semantic.Value → List ℕ → Type 0
IsResultText r None vs text = (vs ≡ []) × (text ≡ [])
IsResultText r (Some t) vs text = (v : Semantic.Value) × (vs ≡ v ∷ []) × IsCompactTextOf r t v text × IsTextOfOnly r t text v

-- the text of the result that the core values of an answer denote in front of an array, or how long it is; or why the result is not read, and the
-- array is as it was
abbrev pub ReadsText : Resolve → FunctionId → List Value → List ℕ → ℕ → List ℕ → Result ℕ CallError → List ℕ → Type 0
ReadsText r func answer memory limit old done new =
    ((vs : List Semantic.Value) × (text : List ℕ) × IsReadResult (function_type r func) answer memory vs × AsksWithin (function_type r func) answer memory limit
    × IsResultText r (function_signature (function_at r func)).result vs text × BytesDone text old done new)
    ⊎ ((e : CallError) × ResultIsNotRead (function_type r func) answer memory limit e × (done ≡ Err e) × (new ≡ old))

-- What is told of a text that ought to be arguments: nothing if it is; a line of one that says others, in front of the array, or how long it is; or
-- the text is no JSON (61), or there is no memory. The words of the line are tested.
abbrev pub TellsFault : Resolve → FunctionId → List ℕ → List ℕ → Result ℕ CallError → List ℕ → Type 0
TellsFault r func text old done new =
    ((vs : List Semantic.Value) × IsArrayTextOf r (parameters_of r func) text vs × (done ≡ Ok 0) × (new ≡ old))
    ⊎ (((line : List ℕ) × IsArrayTextOfNone r (parameters_of r func) text × BytesDone line old done new)
    ⊎ ((e : CallError) × (done ≡ Err e) × (new ≡ old) × ((e ≡ error.NoMemory) ⊎ ((e ≡ error.BadJson) × (read text ≡ None)))))

-- the requests of the arguments that a text says, for the function of this number
abbrev pub JsonAsks : Option Package → ℕ → List ℕ → ℕ → List Request → Result ℕ CallError → List Request → Type 0
JsonAsks opened number text limit old done new =
    OfFunction opened number (λ r func. OfText text (λ d. AsksOfText r func text limit old d new) (new ≡ old)) (new ≡ old) done

-- what is done with the arguments that a text says, for the function of this number, and what the memory and the array of core values have then
abbrev pub JsonFills : Option Package → ℕ → List ℕ → List ℕ → List Block → List Value → Result ℕ CallError → List ℕ → List Value → Type 0
JsonFills opened number text old blocks handed done new handed' =
    OfFunction opened number
    (λ r func. OfText text (λ d. TextFilled r (parameters_of r func) (function_type r func) text old blocks handed d new handed') ((new ≡ old) × (handed' ≡ handed)))
    ((new ≡ old) × (handed' ≡ handed)) done

-- the text of the result of the function of this number
abbrev pub JsonReads : Option Package → ℕ → List Value → List ℕ → ℕ → List ℕ → Result ℕ CallError → List ℕ → Type 0
JsonReads opened number answer memory limit old done new =
    OfFunction opened number (λ r func d. ReadsText r func answer memory limit old d new) (new ≡ old) done

-- where a text is none of the arguments of the function of this number
abbrev pub JsonFaults : Option Package → ℕ → List ℕ → List ℕ → Result ℕ CallError → List ℕ → Type 0
JsonFaults opened number text old done new = OfFunction opened number (λ r func. OfText text (λ d. TellsFault r func text old d new) (new ≡ old)) (new ≡ old) done
