-- What the building of a table keeps.
use Rattle.std.specs.Prelude.{ℕ, ◌<◌, ◌≡◌, Bool, true, List, [], ◌++◌, map, flat_map, length, slice_index_or, All, Contains, take, Option, IsTrue}
use Rattle.std.specs.List.{list_all}
use Rattle.std.specs.Option.{option_map}
use Rattle.tables.specs.Tables.{option_all, kind_all, are_earlier, is_type, name_types}
use Rattle.tables.specs.Package.{Tree, Reference, NamedDefinition, Meaning, IsType, references, definitions_from, read_val, meaning_of, interface_names}
use Rattle.package_form.specs.Postfix.{Leaves, unnamed, unnamed_if, unnamed_field, unnamed_case, unnamed_parameter, parts, aliased, is_inner}
use Rattle.tree_meaning.specs.Declarations.{TypeItem, InterfaceTree, interface_at, named_definition, names_in_function, type_names}
use Rattle.tree_meaning.specs.Resolved.{Labelled, Choice, interface_meaning, no_type}
use Rattle.package_form.specs.Entries.{Table}
use Rattle.package_form.specs.Ids.{is_world_function, places_where}
use Rattle.tables.specs.declared.tables.ValType.{ValType}
use Rattle.tables.specs.declared.tables.ValType.TheVariants as val
use Rattle.tables.specs.declared.tables.Definition.{Definition}
use Rattle.tables.specs.declared.tables.Parameter.{Parameter}
use Rattle.tables.specs.declared.tables.Field.{Field}
use Rattle.tables.specs.declared.tables.Case.{Case}
use Rattle.tables.specs.declared.tables.TypeDefKind.{TypeDefKind}
use Rattle.tables.specs.declared.tables.TypeDefKind.TheVariants as kind
use Rattle.tables.specs.declared.tables.Resolve.{Resolve}
use Rattle.package_form.specs.Scoped.{NameEntry}

-- the type tree of each row of a table; a row with a name reads as a reference to it
unfoldable pub table_trees : Table → List Tree
table_trees t = references t.interfaces [] t.rows

-- the definitions with names that a table's rows read as, in the order of the rows
unfoldable pub table_definitions : Table → List NamedDefinition
table_definitions t = definitions_from t.interfaces [] t.rows

-- the name of the interface at place i of a table, empty if it has no such interface
abbrev pub label_at : Table → ℕ → List ℕ
label_at t i = slice_index_or t.interfaces i []

-- the functions of worlds among a table's rows
abbrev pub world_functions : Table → List ℕ
world_functions t = places_where is_world_function 0 t.rows

-- the new table is the old one with more rows after its own
pub record IsTableFront (old new : Table) : Type 0 where
  pub interfaces : new.interfaces ≡ old.interfaces
  pub rows : (more : List Definition) × (new.rows ≡ old.rows ++ more)
  pub earlier : IsTrue (are_earlier 0 old.rows) → IsTrue (are_earlier 0 new.rows)
  pub typed : IsTrue (name_types old.rows) → IsTrue (name_types new.rows)

-- the new table has these definitions after those of the old one; no row is left without a use
pub record AddsDefinitions (old new : Table) (ds : List NamedDefinition) : Type 0 where
  pub front : IsTableFront old new
  pub own : world_functions new ≡ world_functions old
  pub definitions : table_definitions new ≡ table_definitions old ++ ds
  pub postfix : Leaves old.rows [] → Leaves new.rows []

-- the new table has more rows, none of which has a name; the rows at these places are to be used by what comes next
pub record Extends (old new : Table) (unused : List ℕ) : Type 0 where
  pub front : IsTableFront old new
  pub own : world_functions new ≡ world_functions old
  pub same : table_definitions new ≡ table_definitions old
  pub postfix : (before : List ℕ) → Leaves old.rows before → Leaves new.rows (before ++ unused)

-- the type is one of the table and reads as the tree
pub record TreeStands (t : Table) (v : ValType) (tree : Tree) : Type 0 where
  pub typed : is_type t.rows v ≡ true
  pub reads : read_val (table_trees t) v ≡ tree

-- the table got the rows that the type needs
pub record LowersType (old new : Table) (v : ValType) (tree : Tree) : Type 0 where
  pub extends : Extends old new (unnamed new.rows v)
  pub stands : TreeStands new v tree

-- the table got the rows that an optional type needs, a payload or a result; no type needs none
pub record LowersIf (old new : Table) (v : Option ValType) (tree : Option Tree) : Type 0 where
  pub extends : Extends old new (unnamed_if new.rows v)
  pub typed : option_all (is_type new.rows) v ≡ true
  pub reads : option_map (read_val (table_trees new)) v ≡ tree

-- the table got the rows that these fields, parameters, cases or types need: their types are in it, and they read so
pub record LowersEach {A X : Type 0} (typed : List Definition → A → Bool) (read : List Tree → A → X) (rest : List Definition → A → List ℕ) (old new : Table) (vs : List A) (xs : List X) : Type 0 where
  pub extends : Extends old new (flat_map (rest new.rows) vs)
  pub within : list_all (typed new.rows) vs ≡ true
  pub reads : map (read (table_trees new)) vs ≡ xs

-- a field of a record in a table, as its label and its type's tree
abbrev pub read_field : List Tree → Field → Labelled
read_field trees f = record { name = f.name; tree = read_val trees f.ty }

-- a parameter of a function in a table, as its label and its type's tree
abbrev pub read_parameter : List Tree → Parameter → Labelled
read_parameter trees f = record { name = f.name; tree = read_val trees f.ty }

-- a case of a variant in a table, as its label and the tree of its payload, if it has one
abbrev pub read_case : List Tree → Case → Choice
read_case trees c = record { name = c.name; payload = option_map (read_val trees) c.ty }

-- the field's type is a primitive, string or a row of the table
abbrev pub field_typed : List Definition → Field → Bool
field_typed ds f = is_type ds f.ty

-- the parameter's type is a primitive, string or a row of the table
abbrev pub parameter_typed : List Definition → Parameter → Bool
parameter_typed ds f = is_type ds f.ty

-- the case has no payload, or one whose type is a primitive, string or a row of the table
abbrev pub case_typed : List Definition → Case → Bool
case_typed ds c = option_all (is_type ds) c.ty

-- the table got the rows of the types of a tuple, which read as these trees
abbrev pub LowersAll : Table → Table → List ValType → List Tree → Type 0
LowersAll = LowersEach is_type read_val unnamed

-- the table got the rows of the types of a record's fields, which read as these
abbrev pub LowersFields : Table → Table → List Field → List Labelled → Type 0
LowersFields = LowersEach field_typed read_field unnamed_field

-- the table got the rows of the types of a function's parameters, which read as these
abbrev pub LowersParameters : Table → Table → List Parameter → List Labelled → Type 0
LowersParameters = LowersEach parameter_typed read_parameter unnamed_parameter

-- the table got the rows of the payloads of a variant's cases, which read as these
abbrev pub LowersCases : Table → Table → List Case → List Choice → Type 0
LowersCases = LowersEach case_typed read_case unnamed_case

-- the table got the rows that the kind needs
pub record LowersKind (old new : Table) (k : TypeDefKind) (m : Meaning) : Type 0 where
  pub extends : Extends old new (parts new.rows k)
  pub typed : kind_all (is_type new.rows) k ≡ true
  pub means : meaning_of (table_trees new) k ≡ m
  pub names : aliased new.rows k ≡ []

-- kinds that a type expression makes: an alias of a type, or a list, an option, a result or a tuple
abbrev pub is_expressed : TypeDefKind → Bool
is_expressed (kind.Alias v) = true
is_expressed k = is_inner k

-- the table got the rows that the kind of a type expression needs, and the kind reads as the type's tree
pub record LowersInner (old new : Table) (k : TypeDefKind) (tree : Tree) : Type 0 where
  pub lowers : LowersKind old new k (IsType tree)
  pub inner : IsTrue (is_expressed k)

-- ---- scopes

-- each name is that name of the interface, and a row with a name
pub record IsEntry (t : Table) (i : List ℕ) (e : NameEntry) : Type 0 where
  pub stands : TreeStands t (val.Id e.id) (Reference (record { interface = i; name = e.name }))
  pub named : unnamed t.rows (val.Id e.id) ≡ []

-- the own names of these definitions, without those of their interfaces
abbrev pub names_of : List NamedDefinition → List (List ℕ)
names_of ds = map (λ d. d.key.name) ds

-- each type names only these names, and those of the types before it in the order
abbrev pub NamesEarlier : List (List ℕ) → List TypeItem → List ℕ → Type 0
NamesEarlier names types order = (k : ℕ) → k < length order → (slice_index_or order k 0 < length types)
    × All (Contains (names ++ map (λ j. (slice_index_or types j no_type).name) (take k order)))
    (named_definition (slice_index_or types (slice_index_or order k 0) no_type).definition)

-- the table that building begins with: the rows of the imports, and own interfaces of these names after theirs
abbrev pub start_table : Resolve → List (List ℕ) → Table
start_table r names = record { interfaces = interface_names r ++ names; worlds = []; rows = r.definitions }

-- the names of an interface's types in this order of their places
abbrev pub ordered_names : List TypeItem → List ℕ → List (List ℕ)
ordered_names types order = map (λ j. (slice_index_or types j no_type).name) order

-- each name in a type that the interface declares is that of one of its types or of a name that it uses
abbrev pub TypesKnown : InterfaceTree → Type 0
TypesKnown i = All (λ t. All (Contains (type_names i)) (named_definition t.definition)) i.types

-- each name in a function that the interface declares is that of one of its types or of a name that it uses
abbrev pub FunctionsKnown : InterfaceTree → Type 0
FunctionsKnown i = All (λ f. All (Contains (type_names i)) (names_in_function f.function)) i.functions

-- the definitions of the interfaces in this order, the types of each in its own
abbrev pub package_meaning : List InterfaceTree → List (List ℕ) → List ℕ → List NamedDefinition
package_meaning is orders order = flat_map (λ k. interface_meaning (interface_at is k) (slice_index_or orders k [])) order

-- the table has the definitions of these interfaces in this order, after those of the first table
pub record DefinesPackage (start : Table) (is : List InterfaceTree) (order : List ℕ) (orders : List (List ℕ)) (t : Table) : Type 0 where
  pub adds : AddsDefinitions start t (package_meaning is orders order)
