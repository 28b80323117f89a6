-- What the types and functions of a table are written as, in one scope: an instance type, or the component type of a world.
use Rattle.std.specs.Prelude.{◌≡◌, ℕ, List, Option, Some, None, slice_get, Contains, All}
use Rattle.ctype_format.specs.declared.raw.Primitive.{Primitive}
use Rattle.ctype_format.specs.declared.raw.Primitive.TheVariants as prims
use Rattle.tables.specs.Names.{full_name}
use Rattle.tables.specs.Tables.{type_of, function_of}
use Rattle.tables.specs.declared.tables.Primitive as own
use Rattle.tables.specs.declared.tables.Primitive.TheVariants as own_prims
use Rattle.tables.specs.declared.tables.ValType as own_types
use Rattle.tables.specs.declared.tables.ValType.TheVariants as val
use Rattle.tables.specs.declared.tables.TypeDefKind.{TypeDefKind}
use Rattle.tables.specs.declared.tables.TypeDefKind.TheVariants as kind
use Rattle.tables.specs.declared.tables.TypeDef.{TypeDef}
use Rattle.tables.specs.declared.tables.TypeName.{TypeName}
use Rattle.tables.specs.declared.tables.TypeId.{TypeId}
use Rattle.tables.specs.declared.tables.FunctionId.{FunctionId}
use Rattle.tables.specs.declared.tables.InterfaceId.{InterfaceId}
use Rattle.tables.specs.declared.tables.Interface.{Interface}
use Rattle.tables.specs.declared.tables.Parameter.{Parameter}
use Rattle.tables.specs.declared.tables.Field as own_fields
use Rattle.tables.specs.declared.tables.Case as own_cases
use Rattle.tables.specs.declared.tables.Function.{Function}
use Rattle.tables.specs.declared.tables.Direction.{Direction}
use Rattle.tables.specs.declared.tables.Direction.TheVariants.{Export}
use Rattle.tables.specs.declared.tables.Resolve.{Resolve}
use Rattle.component_structure.specs.declared.structure.NamedId.{NamedId}
use Rattle.component_structure.specs.declared.structure.ValType.{ValType}
use Rattle.component_structure.specs.declared.structure.ValType.TheVariants as types
use Rattle.component_structure.specs.declared.structure.Field.{Field}
use Rattle.component_structure.specs.declared.structure.Case.{Case}
use Rattle.component_structure.specs.declared.structure.Named.{Named}
use Rattle.component_structure.specs.declared.structure.Used.{Used}
use Rattle.component_structure.specs.Bytes.{Full}
use Rattle.component_structure.specs.Parts.{Parts, structure_view, TypeKind, RecordOf, VariantOf, ListOf, TupleOf, FlagsOf, EnumOf, OptionOf, ResultOf, FunctionType, DefinedType, InstancePart, Item, AType, AFunction, ExternPart}
use Rattle.structure_comparison.specs.declared.site.Site.{Site}
use Rattle.structure_comparison.specs.InStep.{InStep, BothOrNone, Both, IsThere}

-- Where types are written: in a scope of this number, of an interface if it is an instance type, and which way its functions cross; and
-- rows without a name, each with the place of a definition that it is written as.
pub record SitePart : Type 0 where
  pub table : Resolve
  pub parts : Parts
  pub scope : ℕ
  pub interface : Option InterfaceId
  pub way : Direction
  pub written : List (ℕ × ℕ)

-- where types are written, in the code
abbrev pub site_view : Site → SitePart
site_view s = record {
  table = s.resolve.now;
  parts = structure_view s.structure.now;
  scope = s.scope;
  interface = s.interface;
  way = s.way;
  written = s.written.entries;
}

-- ---- rows of a table

-- the type in a row, if it is there and no function
abbrev pub type_at : Resolve → ℕ → Option TypeDef
type_at r row = type_of (slice_get r.definitions row)

-- the function in a row, if it is there and no type
abbrev pub function_at : Resolve → ℕ → Option Function
function_at r row = function_of (slice_get r.definitions row)

-- the name of a type, if it has one
abbrev pub name_of : Option TypeDef → Option TypeName
name_of None = None
name_of (Some t) = t.name

-- the name of the type in a row
abbrev pub name_at : Resolve → ℕ → Option TypeName
name_at r row = name_of (type_at r row)

-- ---- types of values

-- a primitive type in the binary format
abbrev pub primitive_of : own.Primitive → Primitive
primitive_of own_prims.Bool = prims.Bool
primitive_of own_prims.S8 = prims.S8
primitive_of own_prims.U8 = prims.U8
primitive_of own_prims.S16 = prims.S16
primitive_of own_prims.U16 = prims.U16
primitive_of own_prims.S32 = prims.S32
primitive_of own_prims.U32 = prims.U32
primitive_of own_prims.S64 = prims.S64
primitive_of own_prims.U64 = prims.U64
primitive_of own_prims.Char = prims.Char

-- a type of this interface under its label, in this scope
abbrev pub IsOfName : SitePart → TypeName → Named → Type 0
IsOfName site name named = (site.interface ≡ Some name.interface) × (named.scope ≡ site.scope) × (named.name ≡ name.name)

-- a row with a name, as a type that the scope exports
abbrev pub IsNamed : SitePart → TypeId → NamedId → Type 0
IsNamed site row id = Both (IsOfName site) (name_at site.table row.0) (slice_get site.parts.named id.0)

-- a type where it is used: a primitive or string, a row with a name by that name, or a row without a name by its definition
abbrev pub IsValue : SitePart → own_types.ValType → ValType → Type 0
IsValue site (val.Primitive p) (types.Primitive q) = q ≡ primitive_of p
IsValue site val.String (types.Primitive q) = q ≡ prims.String
IsValue site (val.Id row) (types.Named id) = IsNamed site row id
IsValue site (val.Id row) (types.Defined id) = Contains site.written (row.0, id.0)
IsValue site _ _ = ⊥

-- a type that may be left out
abbrev pub IsOptional : SitePart → Option own_types.ValType → Option ValType → Type 0
IsOptional site v t = BothOrNone (IsValue site) v t

-- a field of a record: its label and its type
abbrev pub IsField : SitePart → own_fields.Field → Field → Type 0
IsField site f g = (g.label ≡ f.name) × IsValue site f.ty g.ty

-- a case of a variant: its label, and its payload's type if it has one
abbrev pub IsCase : SitePart → own_cases.Case → Case → Type 0
IsCase site c d = (d.label ≡ c.name) × IsOptional site c.ty d.payload

-- what a type is made of, part by part
abbrev pub IsKind : SitePart → TypeDefKind → TypeKind → Type 0
IsKind site (kind.List v) (ListOf t) = IsValue site v t
IsKind site (kind.Option v) (OptionOf t) = IsValue site v t
IsKind site (kind.Result ok error) (ResultOf o e) = IsOptional site ok o × IsOptional site error e
IsKind site (kind.Tuple vs) (TupleOf ts) = InStep (IsValue site) vs ts
IsKind site (kind.Record fs) (RecordOf gs) = InStep (IsField site) fs gs
IsKind site (kind.Variant cs) (VariantOf ds) = InStep (IsCase site) cs ds
IsKind site (kind.Enum names) (EnumOf labels) = labels ≡ names
IsKind site (kind.Flags names) (FlagsOf labels) = labels ≡ names
IsKind site (kind.Use row) _ = ⊥
IsKind site (kind.Alias v) _ = ⊥
IsKind site _ _ = ⊥

-- a type that is made of this, as a definition of the scope
abbrev pub IsDefined : SitePart → TypeDefKind → DefinedType → Type 0
IsDefined site k d = (d.scope ≡ site.scope) × IsKind site k d.kind

-- a row without a name, as a definition of the scope
abbrev pub IsUnnamed : SitePart → TypeDef → DefinedType → Type 0
IsUnnamed site t d = (t.name ≡ None) × IsDefined site t.kind d

-- the row and the definition at these places
abbrev pub IsPair : SitePart → ℕ × ℕ → Type 0
IsPair site p = Both (IsUnnamed site) (type_at site.table p.0) (slice_get site.parts.definitions p.1)

-- Each row without a name that is written has a definition that is made of the same parts. A row's parts stand before it, so the parts
-- of its parts are the same too, down to the last.
abbrev pub AreUnnamed : SitePart → Type 0
AreUnnamed site = All (IsPair site) site.written

-- ---- functions

-- a parameter of a function: its label and its type
abbrev pub IsParameter : SitePart → Parameter → Field → Type 0
IsParameter site p g = (g.label ≡ p.name) × IsValue site p.ty g.ty

-- a function's parameters and its result
abbrev pub IsFunction : SitePart → Function → FunctionType → Type 0
IsFunction site f g = InStep (IsParameter site) f.params g.params × IsOptional site f.result g.outcome

-- a function under its label
abbrev pub IsFunctionItem : SitePart → Function → Item → Type 0
IsFunctionItem site f (AFunction name id) = (name ≡ f.name) × IsThere (IsFunction site f) (slice_get site.parts.functions id.0)
IsFunctionItem site f _ = ⊥

-- a function that is imported or exported
abbrev pub IsFunctionExtern : SitePart → FunctionId → ExternPart → Type 0
IsFunctionExtern site id e = (e.direction ≡ site.way) × IsThere (λ f. IsFunctionItem site f e.item) (function_at site.table id.0)

-- ---- types with a name

-- the instance has the full name of the interface
abbrev pub IsInstanceOf : Resolve → InterfaceId → InstancePart → Type 0
IsInstanceOf r id i = IsThere (λ (x : Interface). i.name ≡ Full (full_name r x)) (slice_get r.interfaces id.0)

-- the type of this name, as a type that an instance of its interface exports
abbrev pub IsUsed : SitePart → TypeName → Used → Type 0
IsUsed site name used = (used.name ≡ name.name) × IsThere (IsInstanceOf site.table name.interface) (slice_get site.parts.instances used.instance.0)

-- the type in a row, as a type that an instance of its interface exports
abbrev pub IsUse : SitePart → TypeId → ValType → Type 0
IsUse site row (types.Used id) = Both (IsUsed site) (name_at site.table row.0) (slice_get site.parts.used id.0)
IsUse site row _ = ⊥

-- a type that is made of this, as a definition
abbrev pub IsMadeOf : SitePart → TypeDefKind → ValType → Type 0
IsMadeOf site k (types.Defined id) = IsThere (IsDefined site k) (slice_get site.parts.definitions id.0)
IsMadeOf site k _ = ⊥

-- what a type with a name is: a type of another interface, another type, or one that is made of parts
abbrev pub IsTarget : SitePart → TypeDefKind → ValType → Type 0
IsTarget site (kind.Use row) t = IsUse site row t
IsTarget site (kind.Alias v) t = IsValue site v t
IsTarget site k t = IsMadeOf site k t

-- a type under its name
abbrev pub IsTypeItem : SitePart → TypeId → Item → Type 0
IsTypeItem site row (AType id) = IsNamed site row id × Both (λ (t : TypeDef) (named : Named). IsTarget site t.kind named.target) (type_at site.table row.0) (slice_get site.parts.named id.0)
IsTypeItem site row _ = ⊥

-- a type with a name that an interface exports
abbrev pub IsTypeExtern : SitePart → TypeId → ExternPart → Type 0
IsTypeExtern site row e = (e.direction ≡ Export) × IsTypeItem site row e.item
