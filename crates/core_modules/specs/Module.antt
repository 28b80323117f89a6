-- What a core module declares, without where it lies in memory.
use Rattle.std.specs.Prelude.{ℕ, List, [], ◌∷◌, ◌++◌, map, Option, Some, None, Bool, true, false, slice_get}
use Rattle.std.specs.Ordering.{is_eq}
use Rattle.std.specs.Map.{lookup}
use Rattle.std.specs.Ordering.{nat_cmp}
use Rattle.std.specs.Cmp.Lexicographic.{slice_cmp}
use Rattle.std.specs.BTreeMap.{insert_entry}
use Rattle.std.specs.String.{string_bytes}
use Rattle.core_modules.specs.declared.types.CoreType.{CoreType}
use Rattle.core_modules.specs.declared.types.FunctionType.{FunctionType}
use Rattle.core_modules.specs.declared.module.Item.{Item}
use Rattle.core_modules.specs.declared.module.Item.TheVariants as items
use Rattle.core_modules.specs.declared.module.Import.{Import}
use Rattle.core_modules.specs.declared.module.Custom.{Custom}
use Rattle.core_modules.specs.declared.module.CoreModule.{CoreModule}

-- the type of a core function
pub record CoreFunction : Type 0 where
  pub params : List CoreType
  pub results : List CoreType

-- the type of a core function in the crate
abbrev pub function_view : FunctionType → CoreFunction
function_view f = record { params = f.params.items; results = f.results.items }

-- an import: the names of the module and of what is imported, and what it is
pub record ImportPart : Type 0 where
  pub from : List ℕ
  pub name : List ℕ
  pub item : Item

-- an import of the crate
abbrev pub import_view : Import → ImportPart
import_view i = record { from = i.from.now; name = i.name.now; item = i.item }

-- a custom section: its name, and what stands behind it
pub record CustomPart : Type 0 where
  pub name : List ℕ
  pub content : List ℕ

-- a custom section of the crate
abbrev pub custom_view : Custom → CustomPart
custom_view c = record { name = c.name.now; content = c.content.now }

-- what a module declares: the types of functions, imports in order, the type of each function by its index, exports by
-- name in order of the names, and custom sections in order
pub record Module : Type 0 where
  pub types : List CoreFunction
  pub imports : List ImportPart
  pub functions : List ℕ
  pub exports : List (List ℕ × Item)
  pub customs : List CustomPart

-- what a module of the crate declares
abbrev pub module_view : CoreModule → Module
module_view m = record {
  types = map function_view m.types.items;
  imports = map import_view m.imports.items;
  functions = m.functions.items;
  exports = map (λ e. (string_bytes e.0, e.1)) m.exports.entries;
  customs = map custom_view m.customs.items;
}

-- a module that declares nothing
abbrev pub no_module : Module
no_module = record { types = []; imports = []; functions = []; exports = []; customs = [] }

-- the module with one more type
abbrev pub with_type : Module → CoreFunction → Module
with_type m t = record m { types = m.types ++ t ∷ [] }

-- the module with one more import
abbrev pub with_import : Module → ImportPart → Module
with_import m i = record m { imports = m.imports ++ i ∷ [] }

-- the module with one more function, of the type at this index
abbrev pub with_function : Module → ℕ → Module
with_function m t = record m { functions = m.functions ++ t ∷ [] }

-- the module that exports this under a name too
abbrev pub with_export : Module → List ℕ → Item → Module
with_export m name item = record m { exports = insert_entry (slice_cmp nat_cmp) m.exports name item }

-- the module with one more custom section
abbrev pub with_custom : Module → CustomPart → Module
with_custom m c = record m { customs = m.customs ++ c ∷ [] }

-- ---- what is asked of it

-- the type of a function that is imported or exported; none of what is no function
abbrev pub type_in : Module → Item → Option CoreFunction
type_in m (items.Function t) = slice_get m.types t
type_in m items.Table = None
type_in m items.Memory = None
type_in m items.Global = None
type_in m items.Tag = None

-- what is exported under a name
abbrev pub exported_as : Module → List ℕ → Option Item
exported_as m name = lookup (λ k. is_eq (slice_cmp nat_cmp name k)) m.exports

-- the type of an exported function, if one is exported
abbrev pub type_exported : Module → Option Item → Option CoreFunction
type_exported m None = None
type_exported m (Some item) = type_in m item

-- a memory is exported, if something is
abbrev pub is_memory : Option Item → Bool
is_memory None = false
is_memory (Some (items.Function t)) = false
is_memory (Some items.Table) = false
is_memory (Some items.Memory) = true
is_memory (Some items.Global) = false
is_memory (Some items.Tag) = false
