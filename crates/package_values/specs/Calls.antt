-- Arguments and results of a function as texts of JSON, in memories of a host's own.
use Rattle.std.specs.Prelude.{◌≡◌, ◌⊎◌, ℕ, List, [], Vec, Result, Ok, Err}
use Rattle.std.specs.Global.{Global}
use Rattle.canonical_abi.specs.Layout.{max_flat_params}
use Rattle.canonical_abi.specs.Requests.{params_requests}
use Rattle.canonical_abi.specs.Types.{FunctionType}
use Rattle.canonical_abi.specs.Values as Semantic
use Rattle.adapter.specs.declared.asking.request.Request.{Request}
use Rattle.memory.specs.declared.block.Block.{Block}
use Rattle.tables.specs.declared.tables.Resolve.{Resolve}
use Rattle.tables.specs.declared.tables.ValType.{ValType}
use Rattle.host_calls.specs.declared.error.CallError.{CallError}
use Rattle.host_calls.specs.declared.error.CallError.TheVariants as error
use Rattle.host_calls.specs.declared.value.Value.{Value}
use Rattle.host_values.specs.Filling.{FillDone}
use Rattle.host_values.specs.Requests.{AreToldBehind, AreNotTold}
use Rattle.package_values.specs.Json.{IsArrayTextOf, RefusesArray}
use Rattle.package_values.specs.declared.json.JsonError.{JsonError}
use Rattle.package_values.specs.declared.json.JsonError.TheVariants as json

-- why a text says no values, as the error of a call
abbrev pub of_json : JsonError → CallError
of_json json.BadJson = error.BadJson
of_json json.NotThisType = error.NotThisType
of_json json.NoMemory = error.NoMemory

-- the text says no values of these types, and this is the error
abbrev pub IsNoText : Resolve → List ValType → List ℕ → CallError → Type 0
IsNoText r ts text e = (refused : JsonError) × RefusesArray r ts text refused × (e ≡ of_json refused)

-- what is told of the blocks that the arguments of a text ask for: of values that it says, or why there are none
abbrev pub TextAsks : Resolve → List ValType → FunctionType → List ℕ → Result (Vec Request Global) CallError → Type 0
TextAsks r ts f text (Ok told) = (vs : List Semantic.Value) × IsArrayTextOf r ts text vs × AreToldBehind [] (params_requests max_flat_params f.params vs) told.items
TextAsks r ts f text (Err (error.Fault fault)) = (vs : List Semantic.Value) × IsArrayTextOf r ts text vs × AreNotTold (params_requests max_flat_params f.params vs) fault
TextAsks r ts f text (Err e) = IsNoText r ts text e

-- what is done with the arguments of a text: values that it says are put into the memory, or are not; or it says none, and nothing is changed
abbrev pub TextFilled : Resolve → List ValType → FunctionType → List ℕ → List ℕ → List Block → List Value → Result ℕ CallError → List ℕ → List Value → Type 0
TextFilled r ts f text old blocks handed done new handed' =
    ((vs : List Semantic.Value) × IsArrayTextOf r ts text vs × FillDone f.params vs old blocks handed done new handed')
    ⊎ ((e : CallError) × IsNoText r ts text e × (done ≡ Err e) × (new ≡ old) × (handed' ≡ handed))
