-- What a file has, without where it lies in memory.
use Rattle.std.specs.Prelude.{ℕ, List, [], Option, None, Bool, false, map, option_map}
use Rattle.std.specs.Ordering.{nat_cmp}
use Rattle.std.specs.Cmp.Lexicographic.{slice_cmp}
use Rattle.std.specs.BTreeMap.{insert_entry}
use Rattle.std.specs.String.{string_bytes}
use Rattle.tables.specs.declared.tables.Direction.{Direction}
use Rattle.tables.specs.declared.tables.Direction.TheVariants.{Import, Export}
use Rattle.component_structure.specs.declared.structure.ScopeId.{ScopeId}
use Rattle.component_structure.specs.declared.structure.FunctionId.{FunctionId}
use Rattle.component_structure.specs.declared.structure.NamedId.{NamedId}
use Rattle.component_structure.specs.declared.structure.InstanceId.{InstanceId}
use Rattle.component_structure.specs.declared.structure.ValType.{ValType}
use Rattle.component_structure.specs.declared.structure.Field.{Field}
use Rattle.component_structure.specs.declared.structure.Case.{Case}
use Rattle.component_structure.specs.declared.structure.Kind.{Kind}
use Rattle.component_structure.specs.declared.structure.Kind.TheVariants as kinds
use Rattle.component_structure.specs.declared.structure.Definition.{Definition}
use Rattle.component_structure.specs.declared.structure.Function.{Function}
use Rattle.component_structure.specs.declared.structure.Named.{Named}
use Rattle.component_structure.specs.declared.structure.Used.{Used}
use Rattle.component_structure.specs.declared.structure.Instance.{Instance}
use Rattle.component_structure.specs.declared.structure.What.{What}
use Rattle.component_structure.specs.declared.structure.What.TheVariants as whats
use Rattle.component_structure.specs.declared.structure.Extern.{Extern}
use Rattle.component_structure.specs.declared.structure.Entry.{Entry}
use Rattle.component_structure.specs.declared.structure.Scope.{Scope}
use Rattle.component_structure.specs.declared.structure.Exported.{Exported}
use Rattle.component_structure.specs.declared.structure.Docs.{Docs}
use Rattle.component_structure.specs.declared.structure.Structure.{Structure}
use Rattle.component_structure.specs.Bytes.{Name, extern_view}
use Rattle.component_structure.specs.Names.{with_name}

-- what a type is made of
pub data TypeKind : Type 0 where
  RecordOf : List Field → TypeKind
  VariantOf : List Case → TypeKind
  ListOf : ValType → TypeKind
  TupleOf : List ValType → TypeKind
  FlagsOf : List (List ℕ) → TypeKind
  EnumOf : List (List ℕ) → TypeKind
  OptionOf : ValType → TypeKind
  ResultOf : Option ValType → Option ValType → TypeKind

-- what a type of the crate is made of
abbrev pub kind_view : Kind → TypeKind
kind_view (kinds.Record fields) = RecordOf fields.items
kind_view (kinds.Variant cases) = VariantOf cases.items
kind_view (kinds.List element) = ListOf element
kind_view (kinds.Tuple members) = TupleOf members.items
kind_view (kinds.Flags labels) = FlagsOf labels.items
kind_view (kinds.Enum labels) = EnumOf labels.items
kind_view (kinds.Option payload) = OptionOf payload
kind_view (kinds.Result ok error) = ResultOf ok error

-- a function's type
pub record FunctionType : Type 0 where
  pub params : List Field
  pub outcome : Option ValType

-- a function's type of the crate
abbrev pub function_view : Function → FunctionType
function_view f = record { params = f.params.items; outcome = f.result }

-- a type that a scope defines
pub record DefinedType : Type 0 where
  pub scope : ℕ
  pub kind : TypeKind

-- a type that a scope of the crate defines
abbrev pub definition_view : Definition → DefinedType
definition_view d = record { scope = d.scope; kind = kind_view d.kind }

-- an instance that a component type imports or exports
pub record InstancePart : Type 0 where
  pub direction : Direction
  pub name : Name
  pub scope : ScopeId

-- an instance of the crate
abbrev pub instance_view : Instance → InstancePart
instance_view i = record { direction = i.direction; name = extern_view i.name; scope = i.scope }

-- what is imported or exported
pub data Item : Type 0 where
  AType : NamedId → Item
  AFunction : List ℕ → FunctionId → Item
  AComponent : Name → ScopeId → Item
  AnInstance : InstanceId → Item

-- what is imported or exported in the crate
abbrev pub item_view : What → Item
item_view (whats.«Type» id) = AType id
item_view (whats.Function name type) = AFunction name type
item_view (whats.Component name scope) = AComponent (extern_view name) scope
item_view (whats.Instance id) = AnInstance id

-- an import or an export, and its offset in the file
pub record ExternPart : Type 0 where
  pub place : ℕ
  pub direction : Direction
  pub item : Item

-- an import or an export of the crate
abbrev pub extern_part : Extern → ExternPart
extern_part e = record { place = e.place; direction = e.direction; item = item_view e.what }

-- a component type or an instance type: how many scopes began before it, its index spaces of types and of instances, its
-- imports and exports in order, the types that it exports by name, and the names of imports and of exports in lower case
pub record ScopePart : Type 0 where
  pub number : ℕ
  pub types : List Entry
  pub instances : List InstanceId
  pub externs : List ExternPart
  pub exported_types : List (List ℕ × NamedId)
  pub imported_names : List (List ℕ)
  pub exported_names : List (List ℕ)

-- a component type or an instance type of the crate
abbrev pub scope_view : Scope → ScopePart
scope_view s = record {
  number = s.number;
  types = s.types.items;
  instances = s.instances.items;
  externs = map extern_part s.externs.items;
  exported_types = map (λ e. (string_bytes e.0, e.1)) s.exported_types.entries;
  imported_names = s.imported_names;
  exported_names = s.exported_names;
}

-- what the section `package-docs` has, and its offset in the file
pub record DocsPart : Type 0 where
  pub place : ℕ
  pub json : List ℕ

-- what the section `package-docs` has in the crate
abbrev pub docs_view : Docs → DocsPart
docs_view d = record { place = d.place; json = d.json.items }

-- what a file has
pub record Parts : Type 0 where
  pub scopes : List ScopePart
  pub definitions : List DefinedType
  pub functions : List FunctionType
  pub named : List Named
  pub used : List Used
  pub instances : List InstancePart
  pub exports : List Exported
  pub docs : Option DocsPart
  pub is_world : Bool

-- what a file has, in the crate
abbrev pub structure_view : Structure → Parts
structure_view s = record {
  scopes = map scope_view s.scopes.items;
  definitions = map definition_view s.definitions.items;
  functions = map function_view s.functions.items;
  named = s.named.items;
  used = s.used.items;
  instances = map instance_view s.instances.items;
  exports = s.exports.items;
  docs = option_map docs_view s.docs;
  is_world = s.is_world;
}

-- a scope that begins, with this number
abbrev pub new_scope : ℕ → ScopePart
new_scope number = record { number = number; types = []; instances = []; externs = []; exported_types = []; imported_names = []; exported_names = [] }

-- a file of which nothing was read
abbrev pub no_parts : Parts
no_parts = record { scopes = []; definitions = []; functions = []; named = []; used = []; instances = []; exports = []; docs = None; is_world = false }

-- the names in lower case that the scope imports, or those that it exports
abbrev pub names_of : Direction → ScopePart → List (List ℕ)
names_of Import scope = scope.imported_names
names_of Export scope = scope.exported_names

-- the scope with one more name that it imports or exports
abbrev pub with_noted : Direction → ScopePart → List ℕ → ScopePart
with_noted Import scope text = record scope { imported_names = with_name scope.imported_names text }
with_noted Export scope text = record scope { exported_names = with_name scope.exported_names text }

-- the scope that exports this type under a name too, if it is an export
abbrev pub with_exported : Direction → ScopePart → List ℕ → NamedId → ScopePart
with_exported Import scope text id = scope
with_exported Export scope text id = record scope { exported_types = insert_entry (slice_cmp nat_cmp) scope.exported_types text id }
