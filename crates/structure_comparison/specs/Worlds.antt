-- What a world of a table is written as: a component type, which a component exports under the world's full name.
use Rattle.std.specs.Prelude.{◌≡◌, ◌⊎◌, ℕ, ◌++◌, List, true, Option, None, Some, slice_get, Contains, All}
use Rattle.std.specs.List.{filter_map}
use Rattle.tables.specs.Names.{world_name}
use Rattle.tables.specs.declared.tables.FunctionId.{FunctionId}
use Rattle.tables.specs.declared.tables.TypeId.{TypeId}
use Rattle.tables.specs.declared.tables.TypeDef.{TypeDef}
use Rattle.tables.specs.declared.tables.TypeDefKind.{TypeDefKind}
use Rattle.tables.specs.declared.tables.TypeDefKind.TheVariants as kind
use Rattle.tables.specs.declared.tables.TypeName.{TypeName}
use Rattle.tables.specs.declared.tables.Interface.{Interface}
use Rattle.tables.specs.declared.tables.InterfaceId.{InterfaceId}
use Rattle.tables.specs.declared.tables.Direction.{Direction}
use Rattle.tables.specs.declared.tables.Direction.TheVariants.{Import, Export}
use Rattle.tables.specs.declared.tables.WorldItem.{WorldItem}
use Rattle.tables.specs.declared.tables.WorldItemKind.{WorldItemKind}
use Rattle.tables.specs.declared.tables.WorldItemKind.TheVariants as item
use Rattle.tables.specs.declared.tables.World.{World}
use Rattle.tables.specs.declared.tables.Resolve.{Resolve}
use Rattle.component_structure.specs.declared.structure.Exported.{Exported}
use Rattle.component_structure.specs.Bytes.{Full}
use Rattle.component_structure.specs.Parts.{Parts, ScopePart, ExternPart, Item, AComponent}
use Rattle.structure_comparison.specs.InStep.{InStep, IsThere, IsOnly}
use Rattle.structure_comparison.specs.Types.{SitePart, AreUnnamed, IsFunctionExtern, type_at, name_at}
use Rattle.structure_comparison.specs.Interfaces.{IsInterfaceExtern}

-- where the types of a world's own functions are written: in the scope of its component type
abbrev pub world_site : Resolve → Parts → Direction → ℕ → List (ℕ × ℕ) → SitePart
world_site r parts way scope written = record { table = r; parts = parts; scope = scope; interface = None; way = way; written = written }

-- these are functions that are imported, or exported, of these rows
pub record HasFunctions (r : Resolve) (parts : Parts) (way : Direction) (scope : ℕ) (functions : List FunctionId) (externs : List ExternPart) : Type 0 where
  pub written : List (ℕ × ℕ)
  pub unnamed : AreUnnamed (world_site r parts way scope written)
  pub functions_are : InStep (IsFunctionExtern (world_site r parts way scope written)) functions externs

-- the function that an item is, if it crosses this way
abbrev pub function_in : Direction → Direction → WorldItemKind → Option FunctionId
function_in Import Import (item.Function f) = Some f
function_in Export Export (item.Function f) = Some f
function_in _ _ _ = None

-- the functions among the items that cross this way, in order
abbrev pub functions_that : Direction → List WorldItem → List FunctionId
functions_that way items = filter_map (λ (i : WorldItem). function_in way i.direction i.kind) items

-- the item of an interface that crosses this way
abbrev pub item_of : Direction → InterfaceId → WorldItem
item_of way id = record { direction = way; kind = item.Interface id }

-- an interface is an item of the world that crosses this way
abbrev pub IsItem : World → Direction → InterfaceId → Type 0
IsItem w way id = Contains w.items (item_of way id)

-- the component type of a world imports these interfaces, then the functions that the world imports, exports those that it exports,
-- and then these interfaces
pub record HasItems (r : Resolve) (parts : Parts) (w : World) (imports exports : List InterfaceId) (scope : ScopePart) : Type 0 where
  pub imported : List ExternPart
  pub imported_functions : List ExternPart
  pub exported_functions : List ExternPart
  pub exported : List ExternPart
  pub in_order : scope.externs ≡ imported ++ (imported_functions ++ (exported_functions ++ exported))
  pub imported_are : InStep (IsInterfaceExtern r parts Import true) imports imported
  pub imported_functions_are : HasFunctions r parts Import scope.number (functions_that Import w.items) imported_functions
  pub exported_functions_are : HasFunctions r parts Export scope.number (functions_that Export w.items) exported_functions
  pub exported_are : InStep (IsInterfaceExtern r parts Export true) exports exported

-- ---- which interfaces these are

-- each of these numbers is the place of an interface with this property
abbrev pub AreIds : (InterfaceId → Type 0) → List ℕ → Type 0
AreIds P places = All (λ (n : ℕ). P (record { 0 = n })) places

-- the item, if it is an interface, is one of those that are imported, or one of those that are exported
abbrev pub IsListed : (InterfaceId → Type 0) → (InterfaceId → Type 0) → Direction → WorldItemKind → Type 0
IsListed imported exported Import (item.Interface id) = imported id
IsListed imported exported Export (item.Interface id) = exported id
IsListed imported exported way (item.Function f) = Unit {0}

-- a type of this kind is a type of the interface under another name
abbrev pub IsKindOf : Resolve → InterfaceId → TypeDefKind → Type 0
IsKindOf r id (kind.Use target) = IsThere (λ (name : TypeName). name.interface ≡ id) (name_at r target.0)
IsKindOf r id _ = ⊥

-- the row is a used name, of a type of the interface
abbrev pub IsUseOf : Resolve → InterfaceId → TypeId → Type 0
IsUseOf r id row = IsThere (λ (t : TypeDef). IsKindOf r id t.kind) (type_at r row.0)

-- the interface uses a type of this one
abbrev pub Uses : Resolve → InterfaceId → Interface → Type 0
Uses r id i = (row : TypeId) × Contains i.uses row × IsUseOf r id row

-- one of these interfaces uses a type of this one
abbrev pub IsUsedByOne : Resolve → List InterfaceId → InterfaceId → Type 0
IsUsedByOne r ids id = (user : InterfaceId) × Contains ids user × IsThere (Uses r id) (slice_get r.interfaces user.0)

-- the world imports the interface, or one of those that are imported or exported uses it
abbrev pub IsNeeded : Resolve → World → List InterfaceId → List InterfaceId → InterfaceId → Type 0
IsNeeded r w imports exports id = IsItem w Import id ⊎ (IsUsedByOne r imports id ⊎ IsUsedByOne r exports id)

-- All interfaces that the world imports are among the imports, where each is needed, and the exports are those that it exports.
pub record AreOfWorld (r : Resolve) (w : World) (imports exports : List InterfaceId) : Type 0 where
  pub listed : All (λ (i : WorldItem). IsListed (Contains imports) (Contains exports) i.direction i.kind) w.items
  pub needed : All (IsNeeded r w imports exports) imports
  pub only : All (IsItem w Export) exports

-- ---- worlds

-- the scope is the component type of the world
pub record IsWorldType (r : Resolve) (parts : Parts) (w : World) (scope : ScopePart) : Type 0 where
  pub imports : List InterfaceId
  pub exports : List InterfaceId
  pub items : HasItems r parts w imports exports scope
  pub of_world : AreOfWorld r w imports exports

-- an item that is a component of the world's type under its full name
abbrev pub IsWorldItem : Resolve → Parts → World → Item → Type 0
IsWorldItem r parts w (AComponent name scope) = (name ≡ Full (world_name r w)) × IsThere (IsWorldType r parts w) (slice_get parts.scopes scope.0)
IsWorldItem r parts w _ = ⊥

-- an export of the world under its full name
abbrev pub IsWorldExtern : Resolve → Parts → World → ExternPart → Type 0
IsWorldExtern r parts w e = (e.direction ≡ Export) × IsWorldItem r parts w e.item

-- the scope exports the world, and has nothing else
abbrev pub HoldsWorld : Resolve → Parts → World → ScopePart → Type 0
HoldsWorld r parts w scope = IsOnly (IsWorldExtern r parts w) scope.externs

-- an export of a file, of a scope that holds the world, under the world's label
abbrev pub IsWorldExport : Resolve → Parts → World → Exported → Type 0
IsWorldExport r parts w e = (e.name ≡ w.name) × IsThere (HoldsWorld r parts w) (slice_get parts.scopes e.scope.0)

-- what a file has is this world of the table
abbrev pub HasWorld : Resolve → World → Parts → Type 0
HasWorld r w parts = (parts.is_world ≡ true) × IsOnly (IsWorldExport r parts w) parts.exports
