-- A guest's call of a function that a host serves, with values as texts of JSON: its arguments, and its result.
use Rattle.std.specs.Prelude.{◌≡◌, ◌⊎◌, ◌<◌, ◌∷◌, [], ℕ, List, Result, Err, Option, Some, None, MatchResult}
use Rattle.adapter.specs.Asking.{IsToldAhead, total}
use Rattle.adapter.specs.Signature.{function_signature}
use Rattle.adapter.specs.declared.asking.request.Request.{Request}
use Rattle.canonical_abi.specs.Requests.{fields_requests}
use Rattle.canonical_abi.specs.Types.{result_fields}
use Rattle.canonical_abi.specs.Values as Semantic
use Rattle.host_calls.specs.Told.{BytesDone}
use Rattle.host_calls.specs.declared.error.CallError.{CallError}
use Rattle.host_calls.specs.declared.error.CallError.TheVariants as error
use Rattle.host_calls.specs.declared.value.Value.{Value}
use Rattle.host_values.specs.Requests.{AreNotTold}
use Rattle.host_values.specs.Arguments.{AreReadArguments, ArgumentsAreNotRead, AskWithin}
use Rattle.host_values.specs.Results.{AnswerDone}
use Rattle.memory.specs.declared.block.Block.{Block}
use Rattle.opening.specs.declared.package.Package.{Package}
use Rattle.package_values.specs.Calls.{of_json}
use Rattle.package_values.specs.Json.{IsArrayTextOf, IsTextOf, IsTextOfNone, JsonArray}
use Rattle.package_values.specs.declared.json.JsonError.{JsonError}
use Rattle.package_values.specs.declared.json.JsonError.TheVariants as json
use Rattle.serde_json.specs.Data.{Data}
use Rattle.serde_json.specs.Read.{read}
use Rattle.serde_json.specs.Written.{compact_text}
use Rattle.tables.specs.Closed.{function_at, function_type}
use Rattle.tables.specs.declared.tables.FunctionId.{FunctionId}
use Rattle.tables.specs.declared.tables.Resolve.{Resolve}
use Rattle.tables.specs.declared.tables.ValType.{ValType}
use Rattle.c_border.specs.Functions.{OfFunction}
use Rattle.c_border.specs.Json.{OfText, parameters_of}

-- ---- arguments

-- the text is the compact JSON of the array of these arguments, and is read as these alone
abbrev pub AreArgumentsText : Resolve → List ValType → List Semantic.Value → List ℕ → Type 0
AreArgumentsText r ts vs text =
    ((j : Data) × JsonArray r ts vs j × (text ≡ compact_text j))
    × (IsArrayTextOf r ts text vs × ((ws : List Semantic.Value) → IsArrayTextOf r ts text ws → ws ≡ vs))

-- the text of the arguments that the core values of a call denote in front of an array, or how long it is; or why they are not read, and the array is
-- as it was
abbrev pub ReadsArguments : Resolve → FunctionId → List Value → List ℕ → ℕ → List ℕ → Result ℕ CallError → List ℕ → Type 0
ReadsArguments r func flats memory limit old done new =
    ((vs : List Semantic.Value) × (text : List ℕ) × AreReadArguments (function_type r func) flats memory vs × AskWithin (function_type r func) flats memory limit
    × AreArgumentsText r (parameters_of r func) vs text × BytesDone text old done new)
    ⊎ ((e : CallError) × ArgumentsAreNotRead (function_type r func) flats memory limit e × (done ≡ Err e) × (new ≡ old))

-- ---- a result

-- the type of a function's result, by its id in the table
abbrev pub result_of : Resolve → FunctionId → Option ValType
result_of r func = (function_signature (function_at r func)).result

-- the text says this result: JSON for its one value; or no bytes where there is no result
abbrev pub IsTextOfResult : Resolve → Option ValType → List ℕ → List Semantic.Value → Type 0
IsTextOfResult r None text vs = (text ≡ []) × (vs ≡ [])
IsTextOfResult r (Some t) text vs = (v : Semantic.Value) × (vs ≡ v ∷ []) × IsTextOf r t text v

-- why a text is refused where it is to say a result: without a result any text that has bytes is of no type (62)
abbrev pub RefusesResult : Resolve → Option ValType → List ℕ → JsonError → Type 0
RefusesResult r o text json.NoMemory = Unit {0}
RefusesResult r None text json.BadJson = ⊥
RefusesResult r None text json.NotThisType = text ≡ [] → ⊥
RefusesResult r (Some t) text json.BadJson = read text ≡ None
RefusesResult r (Some t) text json.NotThisType = IsTextOfNone r t text

-- the text says no result, and this is the error
abbrev pub IsNoResultText : Resolve → Option ValType → List ℕ → CallError → Type 0
IsNoResultText r o text e = (refused : JsonError) × RefusesResult r o text refused × (e ≡ of_json refused)

-- Why the blocks that the result of a text asks for are not told: the text says none, one block is too large, or those of the result have together more
-- bytes than the limit.
abbrev pub AsksNotOfResult : Resolve → FunctionId → List ℕ → ℕ → CallError → Type 0
AsksNotOfResult r func text limit (error.Fault fault) =
    (vs : List Semantic.Value) × IsTextOfResult r (result_of r func) text vs × AreNotTold (fields_requests (result_fields (function_type r func).result) vs) fault
AsksNotOfResult r func text limit error.AboveLimit =
    (vs : List Semantic.Value) × IsTextOfResult r (result_of r func) text vs × (limit < total (fields_requests (result_fields (function_type r func).result) vs))
AsksNotOfResult r func text limit e = IsNoResultText r (result_of r func) text e

-- what a host gets of the requests of a text's result: their number, and as many as fit at the front of its array, whose rest stays; or an error, and
-- the array is as it was
abbrev pub AsksOfResult : Resolve → FunctionId → List ℕ → ℕ → List Request → Result ℕ CallError → List Request → Type 0
AsksOfResult r func text limit old done new = MatchResult done
    (IsToldAhead (IsTextOfResult r (result_of r func) text) (fields_requests (result_fields (function_type r func).result)) limit old new)
    (λ e. AsksNotOfResult r func text limit e × (new ≡ old))

-- what is done with the result of a text: a value that it says is put into the guest's memory, or is not; or it says none, and nothing is changed
abbrev pub ResultFilled : Resolve → FunctionId → List Value → List ℕ → List ℕ → List Block → List Value → Result ℕ CallError → List ℕ → List Value → Type 0
ResultFilled r func flats text old blocks back done new back' =
    ((vs : List Semantic.Value) × IsTextOfResult r (result_of r func) text vs × AnswerDone (function_type r func) flats vs old blocks back done new back')
    ⊎ ((e : CallError) × IsNoResultText r (result_of r func) text e × (done ≡ Err e) × (new ≡ old) × (back' ≡ back))

-- ---- by the function's number

-- the text of the arguments of a call of the function of this number
abbrev pub JsonReadsArguments : Option Package → ℕ → List Value → List ℕ → ℕ → List ℕ → Result ℕ CallError → List ℕ → Type 0
JsonReadsArguments opened number flats memory limit old done new =
    OfFunction opened number (λ r func d. ReadsArguments r func flats memory limit old d new) (new ≡ old) done

-- the requests of the result that a text says, for the function of this number
abbrev pub JsonAsksOfResult : Option Package → ℕ → List ℕ → ℕ → List Request → Result ℕ CallError → List Request → Type 0
JsonAsksOfResult opened number text limit old done new =
    OfFunction opened number (λ r func. OfText text (λ d. AsksOfResult r func text limit old d new) (new ≡ old)) (new ≡ old) done

-- what is done with the result that a text says, for a call of the function of this number, and what the memory and the array of core values have then
abbrev pub JsonAnswers : Option Package → ℕ → List Value → List ℕ → List ℕ → List Block → List Value → Result ℕ CallError → List ℕ → List Value → Type 0
JsonAnswers opened number flats text old blocks back done new back' =
    OfFunction opened number
    (λ r func. OfText text (λ d. ResultFilled r func flats text old blocks back d new back') ((new ≡ old) × (back' ≡ back)))
    ((new ≡ old) × (back' ≡ back)) done
