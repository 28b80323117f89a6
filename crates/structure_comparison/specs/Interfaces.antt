-- What an interface of a table is written as: an instance type, and an instance of it that is imported or exported.
use Rattle.std.specs.Prelude.{◌≡◌, ℕ, ◌++◌, List, [], Bool, true, false, Some, slice_get}
use Rattle.tables.specs.declared.tables.FunctionId.{FunctionId}
use Rattle.tables.specs.declared.tables.Interface.{Interface}
use Rattle.tables.specs.declared.tables.InterfaceId.{InterfaceId}
use Rattle.tables.specs.declared.tables.Direction.{Direction}
use Rattle.tables.specs.declared.tables.Direction.TheVariants.{Export}
use Rattle.tables.specs.declared.tables.Resolve.{Resolve}
use Rattle.component_structure.specs.Parts.{Parts, ScopePart, ExternPart, InstancePart, Item, AnInstance}
use Rattle.structure_comparison.specs.InStep.{InStep, IsThere}
use Rattle.structure_comparison.specs.Types.{SitePart, AreUnnamed, IsTypeExtern, IsFunctionExtern, IsInstanceOf}

-- where the types of an interface are written: in the scope of its instance type
abbrev pub interface_site : Resolve → Parts → InterfaceId → ℕ → List (ℕ × ℕ) → SitePart
interface_site r parts id scope written = record { table = r; parts = parts; scope = scope; interface = Some id; way = Export; written = written }

-- the functions of an interface, or none of them
abbrev pub functions_of : Bool → Interface → List FunctionId
functions_of true i = i.functions
functions_of false i = []

-- these are exports of an interface's used names, then of its types, and then of these functions
pub record HasMembers (site : SitePart) (i : Interface) (functions : List FunctionId) (externs : List ExternPart) : Type 0 where
  pub uses : List ExternPart
  pub types : List ExternPart
  pub others : List ExternPart
  pub in_order : externs ≡ uses ++ (types ++ others)
  pub uses_are : InStep (IsTypeExtern site) i.uses uses
  pub types_are : InStep (IsTypeExtern site) i.types types
  pub functions_are : InStep (IsFunctionExtern site) functions others

-- the scope is the interface, whole or without its functions
pub record IsInterface (r : Resolve) (parts : Parts) (whole : Bool) (id : InterfaceId) (scope : ScopePart) : Type 0 where
  pub interface : Interface
  pub stands : slice_get r.interfaces id.0 ≡ Some interface
  pub written : List (ℕ × ℕ)
  pub unnamed : AreUnnamed (interface_site r parts id scope.number written)
  pub members : HasMembers (interface_site r parts id scope.number written) interface (functions_of whole interface) scope.externs

-- the instance crosses this way, has the full name of the interface, and is it, whole or without its functions
abbrev pub IsInstance : Resolve → Parts → Direction → Bool → InterfaceId → InstancePart → Type 0
IsInstance r parts way whole id i = (i.direction ≡ way) × IsInstanceOf r id i × IsThere (IsInterface r parts whole id) (slice_get parts.scopes i.scope.0)

-- an item that is an instance of the interface
abbrev pub IsInstanceItem : Resolve → Parts → Direction → Bool → InterfaceId → Item → Type 0
IsInstanceItem r parts way whole id (AnInstance i) = IsThere (IsInstance r parts way whole id) (slice_get parts.instances i.0)
IsInstanceItem r parts way whole id _ = ⊥

-- an interface that is imported or exported under its full name, whole or without its functions
abbrev pub IsInterfaceExtern : Resolve → Parts → Direction → Bool → InterfaceId → ExternPart → Type 0
IsInterfaceExtern r parts way whole id e = (e.direction ≡ way) × IsInstanceItem r parts way whole id e.item
