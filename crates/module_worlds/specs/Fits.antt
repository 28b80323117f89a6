-- Which core functions a module has to export for a world: those of the world under their labels, and those of an interface under `ns:pkg/face@1.0.0#f`.
use Rattle.std.specs.Prelude.{◌≡◌, ℕ, List, [], ◌∷◌, ◌++◌, map, flat_map, Option, Some, None, slice_get}
use Rattle.std.specs.List.{All}
use Rattle.std.specs.String.{string_bytes}
use Rattle.canonical_abi.specs.Layout.{CoreSignature, lifted_signature}
use Rattle.canonical_abi.specs.declared.flat.CoreKind.{CoreKind}
use Rattle.canonical_abi.specs.declared.flat.CoreKind.TheVariants as kinds
use Rattle.tables.specs.Closed.{function_at, function_type, IsFunction}
use Rattle.tables.specs.Names.{full_name}
use Rattle.tables.specs.declared.tables.Direction.{Direction}
use Rattle.tables.specs.declared.tables.Direction.TheVariants.{Import, Export}
use Rattle.tables.specs.declared.tables.Function.{Function}
use Rattle.tables.specs.declared.tables.FunctionId.{FunctionId}
use Rattle.tables.specs.declared.tables.Interface.{Interface}
use Rattle.tables.specs.declared.tables.Resolve.{Resolve}
use Rattle.tables.specs.declared.tables.WorldItem.{WorldItem}
use Rattle.tables.specs.declared.tables.WorldItemKind.{WorldItemKind}
use Rattle.tables.specs.declared.tables.WorldItemKind.TheVariants as items
use Rattle.core_modules.specs.declared.types.CoreType.{CoreType}
use Rattle.core_modules.specs.declared.types.CoreType.TheVariants as core
use Rattle.core_modules.specs.Module.{Module, CoreFunction, exported_as, type_exported}
use Rattle.module_worlds.specs.declared.required.Required.{Required}

-- the type of core values of this kind
abbrev pub core_type_of : CoreKind → CoreType
core_type_of kinds.I32 = core.I32
core_type_of kinds.I64 = core.I64

-- the type of a core function of this signature
abbrev pub core_function : CoreSignature → CoreFunction
core_function s = record { params = map core_type_of s.params; results = map core_type_of s.results }

-- the function of a row, under its label behind these bytes
abbrev pub named_after : List ℕ → FunctionId → Option Function → List (List ℕ × FunctionId)
named_after front id None = []
named_after front id (Some f) = (front ++ f.name, id) ∷ []

-- the function at this place, if there is one, under its label behind these bytes
abbrev pub named_function : Resolve → List ℕ → FunctionId → List (List ℕ × FunctionId)
named_function r front id = named_after front id (function_at r id)

-- the functions of an interface, under its full name, `#` and their labels
abbrev pub functions_of : Resolve → Option Interface → List (List ℕ × FunctionId)
functions_of r None = []
functions_of r (Some i) = flat_map (named_function r (full_name r i ++ 35 ∷ [])) i.functions

-- what a world's item asks of a module's exports
abbrev pub exports_of_kind : Resolve → WorldItemKind → List (List ℕ × FunctionId)
exports_of_kind r (items.Function id) = named_function r [] id
exports_of_kind r (items.Interface id) = functions_of r (slice_get r.interfaces id.0)

-- the same, of an item that is exported
abbrev pub exports_of_item : Resolve → Direction → WorldItemKind → List (List ℕ × FunctionId)
exports_of_item r Import kind = []
exports_of_item r Export kind = exports_of_kind r kind

-- the functions that a world of these items exports, and the names that a module gives them
abbrev pub required_exports : Resolve → List WorldItem → List (List ℕ × FunctionId)
required_exports r world = flat_map (λ i. exports_of_item r i.direction i.kind) world

-- what a module has to export, in the code
abbrev pub required_view : Required → List ℕ × FunctionId
required_view e = (string_bytes e.name, e.id)

-- the module exports a function under this name, with the core signature of a callee of the function at this place
abbrev pub ExportsAs : Module → Resolve → List ℕ × FunctionId → Type 0
ExportsAs m r e = IsFunction r e.1 → type_exported m (exported_as m e.0) ≡ Some (core_function (lifted_signature (function_type r e.1)))

-- the module exports each function that a world of these items exports
abbrev pub ExportsAll : Module → Resolve → List WorldItem → Type 0
ExportsAll m r world = All (ExportsAs m r) (required_exports r world)
