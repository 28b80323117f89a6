-- The rows of an interface that an instance type may be: its declarations read one after the other.
use Rattle.std.specs.Prelude.{◌==◌, ℕ, List, [], ◌∷◌, ◌++◌, length, Option, None, Some, if◌then◌else◌}
use Rattle.std.specs.Option.{option_map}
use Rattle.std.specs.Str.{bytes_eq}
use Rattle.atoms.specs.Label.{is_label}
use Rattle.ctype_format.specs.Raw.{TypeEntry as AnyType, Define, Func, Component, Instance, Decl, Entry, Alias, Import, Export, Decls, none, then as more}
use Rattle.ctype_format.specs.declared.raw.RawAlias.{RawAlias}
use Rattle.ctype_format.specs.declared.raw.RawAlias.TheVariants as alias
use Rattle.ctype_format.specs.declared.raw.RawDescription.{RawDescription}
use Rattle.ctype_format.specs.declared.raw.RawDescription.TheVariants as described
use Rattle.package_form.specs.Scoped.{NameEntry}
use Rattle.package_form.specs.Ids.{type_id, function_id}
use Rattle.package_form.specs.Postfix.{inner_row}
use Rattle.tables.specs.declared.tables.TypeId.{TypeId}
use Rattle.tables.specs.declared.tables.FunctionId.{FunctionId}
use Rattle.tables.specs.declared.tables.ValType.{ValType}
use Rattle.tables.specs.declared.tables.ValType.TheVariants as val
use Rattle.tables.specs.declared.tables.TypeDefKind.{TypeDefKind}
use Rattle.tables.specs.declared.tables.TypeDefKind.TheVariants as kind
use Rattle.tables.specs.declared.tables.Parameter.{Parameter}
use Rattle.tables.specs.declared.tables.Owner.TheVariants as owner
use Rattle.tables.specs.declared.tables.Definition.{Definition}
use Rattle.tables.specs.declared.tables.Definition.TheVariants as row
use Rattle.component_reader.specs.Types.{all_found, both_found, row_at, optional_type, parameter_read, kind_defined}

-- f of what was found, if it was found and f finds something
abbrev pub if_found : {A B : Type 0} → Option A → (A → Option B) → Option B
if_found None f = None
if_found (Some x) f = f x

-- what the last definition or alias defines, while its export may still come
pub data Awaited : Type 0 where
  Nothing : Awaited
  AType : TypeDefKind → Awaited
  AFunction : List Parameter → Option ValType → Awaited

-- What was read of an interface's instance type: the table with its rows so far, the row of each type index, the types that it exports
-- by name, and its ids.
pub record InstanceRead : Type 0 where
  pub rows : List Definition
  pub indices : List (Option TypeId)
  pub awaited : Awaited
  pub names : List NameEntry
  pub uses : List TypeId
  pub types : List TypeId
  pub functions : List FunctionId

-- the names with this one for the type: a name is that of the type that was exported last under it
abbrev pub with_name : List NameEntry → List ℕ → TypeId → List NameEntry
with_name [] n t = record { name = n; id = t } ∷ []
with_name (e ∷ es) n t = if bytes_eq n e.name then record { name = e.name; id = t } ∷ es else e ∷ with_name es n t

-- the type of this name, if one was exported under it
abbrev pub type_named : List NameEntry → List ℕ → Option TypeId
type_named [] n = None
type_named (e ∷ es) n = if bytes_eq n e.name then Some e.id else type_named es n

-- an instance type of which nothing was read yet, after these rows
abbrev pub nothing_read : List Definition → InstanceRead
nothing_read rows = record { rows = rows; indices = []; awaited = Nothing; names = []; uses = []; types = []; functions = [] }

-- what was read with this definition, whose export may still come
abbrev pub awaiting : InstanceRead → Awaited → InstanceRead
awaiting s a = record { rows = s.rows; indices = s.indices; awaited = a; names = s.names; uses = s.uses; types = s.types; functions = s.functions }

-- the table with a row of this kind without a name, which is the next type index
abbrev pub with_unnamed : InstanceRead → TypeDefKind → InstanceRead
with_unnamed s k = record {
  rows = s.rows ++ inner_row k ∷ [];
  indices = s.indices ++ Some (type_id (length s.rows)) ∷ [];
  awaited = Nothing;
  names = s.names;
  uses = s.uses;
  types = s.types;
  functions = s.functions;
}

-- no export of the last definition came: a type is a row without a name, and a function is not of a package's shape
abbrev pub settled_as : InstanceRead → Awaited → Option InstanceRead
settled_as s Nothing = Some s
settled_as s (AType k) = Some (with_unnamed s k)
settled_as s (AFunction ps result) = None

-- what was read, if no export of the last definition comes
abbrev pub settled : InstanceRead → Option InstanceRead
settled s = settled_as s s.awaited

-- the row of a type of interface k under this name
abbrev pub named_row : ℕ → List ℕ → TypeDefKind → Definition
named_row k n what = row.Type (record { name = Some (record { interface = record { 0 = k }; name = n }); kind = what })

-- the used names of an interface with this type, if it is one
abbrev pub uses_with : List TypeId → TypeId → TypeDefKind → List TypeId
uses_with ts t (kind.Use u) = ts ++ t ∷ []
uses_with ts t _ = ts

-- the types of an interface with this one, if it is no used name
abbrev pub types_with : List TypeId → TypeId → TypeDefKind → List TypeId
types_with ts t (kind.Use u) = ts
types_with ts t _ = ts ++ t ∷ []

-- a type of interface k under this name, at the end of the table
abbrev pub with_named : ℕ → List ℕ → TypeDefKind → InstanceRead → InstanceRead
with_named k n what s = record {
  rows = s.rows ++ named_row k n what ∷ [];
  indices = s.indices ++ Some (type_id (length s.rows)) ∷ [];
  awaited = Nothing;
  names = with_name s.names n (type_id (length s.rows));
  uses = uses_with s.uses (type_id (length s.rows)) what;
  types = types_with s.types (type_id (length s.rows)) what;
  functions = s.functions;
}

-- the next type index is that of no row
abbrev pub with_index : InstanceRead → InstanceRead
with_index s = record { rows = s.rows; indices = s.indices ++ None ∷ []; awaited = s.awaited; names = s.names; uses = s.uses; types = s.types; functions = s.functions }

-- a type declared as a new name of this one
abbrev pub alias_to : TypeId → TypeDefKind
alias_to t = kind.Alias (val.Id t)

-- the type at this index exported under a further name of interface k: a row that is a new name of it
abbrev pub renamed : ℕ → List ℕ → ℕ → InstanceRead → Option InstanceRead
renamed k n i s = option_map (λ t. with_named k n (alias_to t) s) (row_at s.indices i)

-- a type of interface k exported under this name: the one that was defined last, or a new name of another one
abbrev pub type_exported : ℕ → List ℕ → ℕ → InstanceRead → Awaited → Option InstanceRead
type_exported k n i s (AType what) =
    if i == length s.indices then Some (with_named k n what (with_index s)) else renamed k n i (with_unnamed s what)
type_exported k n i s Nothing = renamed k n i s
type_exported k n i s (AFunction ps result) = None

-- the row of a function of interface k
abbrev pub function_row : ℕ → List ℕ → List Parameter → Option ValType → Definition
function_row k n ps result = row.Function (record { owner = owner.Interface (record { 0 = k }); name = n; params = ps; result = result })

-- the table with this function's row at its end; the next type index, that of its function type, is that of no row
abbrev pub with_row : Definition → InstanceRead → InstanceRead
with_row d s = record {
  rows = s.rows ++ d ∷ [];
  indices = s.indices ++ None ∷ [];
  awaited = Nothing;
  names = s.names;
  uses = s.uses;
  types = s.types;
  functions = s.functions;
}

-- a function of interface k exported under this name: its type must be what was defined last
abbrev pub function_exported : ℕ → List ℕ → InstanceRead → Awaited → Option InstanceRead
function_exported k n s (AFunction ps result) = Some (record {
  rows = s.rows ++ function_row k n ps result ∷ [];
  indices = s.indices ++ None ∷ [];
  awaited = Nothing;
  names = s.names;
  uses = s.uses;
  types = s.types;
  functions = s.functions ++ function_id (length s.rows) ∷ [];
})
function_exported k n s Nothing = None
function_exported k n s (AType what) = None

-- an export of an instance type: a type or a function of interface k, and no other
abbrev pub exported_read : ℕ → List ℕ → RawDescription → InstanceRead → Option InstanceRead
exported_read k n (described.TypeEqual i) s = type_exported k n i s s.awaited
exported_read k n (described.Function i) s = function_exported k n s s.awaited
exported_read k n (described.Component i) s = None
exported_read k n (described.Instance i) s = None

-- the row of the type that an outer alias means, among the types of the scope around
abbrev pub used_type : List (Option TypeId) → RawAlias → Option TypeId
used_type around (alias.Outer count i) = if count == 1 then row_at around i else None
used_type around (alias.InstanceExport i n) = None

-- a type declared in an instance type: a value type or a function type, whose export may still come
abbrev pub defined_read : AnyType → InstanceRead → Option InstanceRead
defined_read (Define d) s = option_map (λ what. awaiting s (AType what)) (kind_defined s.indices d)
defined_read (Func f) s =
    option_map (awaiting s) (both_found AFunction (all_found (parameter_read s.indices) f.params) (optional_type s.indices f.outcome))
defined_read (Component ds) s = None
defined_read (Instance ds) s = None

-- an alias in an instance type: a used name, whose export may still come
abbrev pub use_read : List (Option TypeId) → RawAlias → InstanceRead → Option InstanceRead
use_read around a s = option_map (λ t. awaiting s (AType (kind.Use t))) (used_type around a)

-- a declaration of interface k's instance type, with these types in the scope around it
abbrev pub decl_read : List (Option TypeId) → ℕ → Decl → InstanceRead → Option InstanceRead
decl_read around k (Entry t) s = if_found (settled s) (defined_read t)
decl_read around k (Alias a) s = if_found (settled s) (use_read around a)
decl_read around k (Import n d) s = None
decl_read around k (Export n d) s = if is_label n then exported_read k n d s else None

-- these declarations of interface k's instance type in turn; none if one is not of a package's shape
abbrev pub decls_read : List (Option TypeId) → ℕ → Decls → InstanceRead → Option InstanceRead
decls_read around k none s = Some s
decls_read around k (more d ds) s = if_found (decl_read around k d s) (decls_read around k ds)

-- interface k's instance type read whole, its rows after these; its last definition may have no export
abbrev pub instance_read : List (Option TypeId) → ℕ → Decls → List Definition → Option InstanceRead
instance_read around k ds rows = if_found (decls_read around k ds (nothing_read rows)) settled
