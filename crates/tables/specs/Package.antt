-- A package as its names tell it: definitions in package order, in which a reference is a pair of an interface and a name, and what
-- their names unfold to.
use Rattle.std.specs.Prelude.{◌≡◌, ◌||◌, ◌&&◌, ℕ, Bool, false, List, [], ◌∷◌, ◌++◌, map, length, slice_index_or, Option, None, Some, slice_get, if◌then◌else◌}
use Rattle.std.specs.Option.{option_map}
use Rattle.std.specs.Str.{bytes_eq}
use Rattle.canonical_abi.specs.Types.{ClosedType, prim_type, string_type, list_type, record_type, variant_type, flags_type}
use Rattle.canonical_abi.specs.Types as closed
use Rattle.canonical_abi.specs.Labelled.{none_label, some_label, ok_label, error_label}
use Rattle.tables.specs.Closed.{prim_of, closed_type}
use Rattle.tables.specs.Names.{full_name, world_name}
use Rattle.tables.specs.Tables.{function_of}
use Rattle.tables.specs.declared.tables.Primitive.{Primitive}
use Rattle.tables.specs.declared.tables.ValType.{ValType}
use Rattle.tables.specs.declared.tables.ValType.TheVariants as val
use Rattle.tables.specs.declared.tables.TypeDefKind.{TypeDefKind}
use Rattle.tables.specs.declared.tables.TypeDefKind.TheVariants as kind
use Rattle.tables.specs.declared.tables.TypeName.{TypeName}
use Rattle.tables.specs.declared.tables.Parameter.{Parameter}
use Rattle.tables.specs.declared.tables.Field.{Field}
use Rattle.tables.specs.declared.tables.Case.{Case}
use Rattle.tables.specs.declared.tables.Owner.{Owner}
use Rattle.tables.specs.declared.tables.Owner.TheVariants as owner
use Rattle.tables.specs.declared.tables.Function.{Function}
use Rattle.tables.specs.declared.tables.Definition.{Definition}
use Rattle.tables.specs.declared.tables.Definition.TheVariants as row
use Rattle.tables.specs.declared.tables.Direction.{Direction}
use Rattle.tables.specs.declared.tables.WorldItemKind.{WorldItemKind}
use Rattle.tables.specs.declared.tables.WorldItemKind.TheVariants as item
use Rattle.tables.specs.declared.tables.World.{World}
use Rattle.tables.specs.declared.tables.Resolve.{Resolve}

-- the keyword by which a record or a variant is written: record or tuple; variant, enum, option or result
pub data Form : Type 0 where
  Plain : Form
  AsTuple : Form
  AsEnum : Form
  AsOption : Form
  AsResult : Form

-- the name of a type or function, with the full name of its interface
pub record Key : Type 0 where
  pub interface : List ℕ
  pub name : List ℕ

mutual
  -- a type as its package writes it: with labels, and with references to named types
  pub data Tree : Type 0 where
    PrimTree : Primitive → Tree
    TextTree : Tree
    Reference : Key → Tree
    ListTree : Tree → Tree
    RecordTree : Form → TreeFields → Tree
    VariantTree : Form → Choices → Tree
    FlagsTree : List (List ℕ) → Tree

  -- a record's fields or a function's parameters, in order, each with its label; a tuple's labels are empty
  pub data TreeFields : Type 0 where
    no_fields : TreeFields
    field : List ℕ → Tree → TreeFields → TreeFields

  -- a variant's cases in order, each with its label, without or with a payload
  pub data Choices : Type 0 where
    no_choices : Choices
    empty : List ℕ → Choices → Choices
    holding : List ℕ → Tree → Choices → Choices

-- a definition with a name: a used name, a type, or a function with its parameters and its result
pub data Meaning : Type 0 where
  IsUse : Tree → Meaning
  IsType : Tree → Meaning
  IsFunction : TreeFields → Option Tree → Meaning

-- a named type or function of an interface, and what it means
pub record NamedDefinition : Type 0 where
  pub key : Key
  pub meaning : Meaning

-- what a world imports or exports: an interface under its full name, or a function with its name, its parameters and its result
pub data ItemMeaning : Type 0 where
  WithInterface : Direction → List ℕ → ItemMeaning
  WithFunction : Direction → List ℕ → TreeFields → Option Tree → ItemMeaning

-- a world under its full name, with its items in order
pub record WorldMeaning : Type 0 where
  pub name : List ℕ
  pub items : List ItemMeaning

-- ---- closed types by names

-- the closed types of the names that are defined so far; of two equal names the first counts
abbrev pub Environment : Type 0
Environment = List (Key × ClosedType)

-- both are the same name of the same interface
abbrev pub is_same_key : Key → Key → Bool
is_same_key a b = bytes_eq a.interface b.interface && bytes_eq a.name b.name

-- the closed type of a name, or string if the name is not defined
abbrev pub lookup : Environment → Key → ClosedType
lookup [] n = string_type
lookup (e ∷ es) n = if is_same_key e.0 n then e.1 else lookup es n

abbrev mutual
  -- the closed type of a tree, with names unfolded and labels erased
  pub closed_tree : Environment → Tree → ClosedType
  closed_tree env (PrimTree p) = prim_type (prim_of p)
  closed_tree env TextTree = string_type
  closed_tree env (Reference n) = lookup env n
  closed_tree env (ListTree t) = list_type (closed_tree env t)
  closed_tree env (RecordTree form fs) = record_type (closed_tree_fields env fs)
  closed_tree env (VariantTree form cs) = variant_type (closed_choices env cs)
  closed_tree env (FlagsTree labels) = flags_type (length labels)

  -- the closed types of fields, without their labels
  pub closed_tree_fields : Environment → TreeFields → closed.Fields
  closed_tree_fields env no_fields = closed.no_field
  closed_tree_fields env (field label t fs) = closed.field (closed_tree env t) (closed_tree_fields env fs)

  -- the cases without their labels, and the closed types of their payloads
  pub closed_choices : Environment → Choices → closed.Cases
  closed_choices env no_choices = closed.no_case
  closed_choices env (empty label cs) = closed.plain_case (closed_choices env cs)
  closed_choices env (holding label t cs) = closed.case_with (closed_tree env t) (closed_choices env cs)

-- the name and closed type that a definition adds, as a list of one, or of none for a function
abbrev pub environment_entry : Environment → Key → Meaning → Environment
environment_entry env n (IsUse t) = (n, closed_tree env t) ∷ []
environment_entry env n (IsType t) = (n, closed_tree env t) ∷ []
environment_entry env n (IsFunction fs result) = []

-- the environment after these definitions, each closed over those before it
abbrev pub environment : Environment → List NamedDefinition → Environment
environment env [] = env
environment env (d ∷ ds) = environment (env ++ environment_entry env d.key d.meaning) ds

-- ---- what the rows of a table read as

-- the tree of a value type, over the trees by which references to the rows before it are read
abbrev pub read_val : List Tree → ValType → Tree
read_val trees (val.Primitive p) = PrimTree p
read_val trees val.String = TextTree
read_val trees (val.Id t) = slice_index_or trees t.0 TextTree

-- these cases with one more before them, of this label and payload
abbrev pub read_choice : List Tree → List ℕ → Option ValType → Choices → Choices
read_choice trees label None cs = empty label cs
read_choice trees label (Some v) cs = holding label (read_val trees v) cs

-- the members of a tuple as fields with empty labels
abbrev pub read_tuple : List Tree → List ValType → TreeFields
read_tuple trees [] = no_fields
read_tuple trees (v ∷ vs) = field [] (read_val trees v) (read_tuple trees vs)

-- the fields of a record with their labels and trees
abbrev pub read_fields : List Tree → List Field → TreeFields
read_fields trees [] = no_fields
read_fields trees (f ∷ fs) = field f.name (read_val trees f.ty) (read_fields trees fs)

-- the parameters of a function as fields with their labels and trees
abbrev pub read_params : List Tree → List Parameter → TreeFields
read_params trees [] = no_fields
read_params trees (p ∷ ps) = field p.name (read_val trees p.ty) (read_params trees ps)

-- the cases of a variant with their labels and payloads
abbrev pub read_cases : List Tree → List Case → Choices
read_cases trees [] = no_choices
read_cases trees (c ∷ cs) = read_choice trees c.name c.ty (read_cases trees cs)

-- the cases of an enum as cases without payloads
abbrev pub read_enum : List (List ℕ) → Choices
read_enum [] = no_choices
read_enum (n ∷ ns) = empty n (read_enum ns)

-- the tree of a type of this kind, over the trees by which references to the rows before it are read
abbrev pub read_kind : List Tree → TypeDefKind → Tree
read_kind trees (kind.Use t) = read_val trees (val.Id t)
read_kind trees (kind.Alias v) = read_val trees v
read_kind trees (kind.List v) = ListTree (read_val trees v)
read_kind trees (kind.Option v) = VariantTree AsOption (empty none_label (holding some_label (read_val trees v) no_choices))
read_kind trees (kind.Result ok error) =
    VariantTree AsResult (read_choice trees ok_label ok (read_choice trees error_label error no_choices))
read_kind trees (kind.Tuple vs) = RecordTree AsTuple (read_tuple trees vs)
read_kind trees (kind.Record fs) = RecordTree Plain (read_fields trees fs)
read_kind trees (kind.Variant cs) = VariantTree Plain (read_cases trees cs)
read_kind trees (kind.Enum names) = VariantTree AsEnum (read_enum names)
read_kind trees (kind.Flags names) = FlagsTree names

-- the name of a type with the full name of its interface
abbrev pub key_of : List (List ℕ) → TypeName → Key
key_of interfaces n = record { interface = slice_index_or interfaces n.interface.0 []; name = n.name }

-- what a reference to a type means: its name, or the type's tree if it has no name
abbrev pub reference_by : List (List ℕ) → Option TypeName → Tree → Tree
reference_by interfaces None t = t
reference_by interfaces (Some n) t = Reference (key_of interfaces n)

-- what a reference to this row means, over the trees by which references to the rows before it are read
abbrev pub reference : List (List ℕ) → List Tree → Definition → Tree
reference interfaces trees (row.Type d) = reference_by interfaces d.name (read_kind trees d.kind)
reference interfaces trees (row.Function f) = RecordTree Plain (read_params trees f.params)

-- these trees, and then what a reference to each of these rows means
abbrev pub references : List (List ℕ) → List Tree → List Definition → List Tree
references interfaces trees [] = trees
references interfaces trees (d ∷ ds) = references interfaces (trees ++ reference interfaces trees d ∷ []) ds

-- what a type with a name is: a used name, or a type of its own
abbrev pub meaning_of : List Tree → TypeDefKind → Meaning
meaning_of trees (kind.Use t) = IsUse (read_val trees (val.Id t))
meaning_of trees k = IsType (read_kind trees k)

-- the definition that a type is under its name, as a list of one, or of none if it has no name
abbrev pub named_by : List (List ℕ) → List Tree → Option TypeName → TypeDefKind → List NamedDefinition
named_by interfaces trees None k = []
named_by interfaces trees (Some n) k = record { key = key_of interfaces n; meaning = meaning_of trees k } ∷ []

-- a function's parameters and result, as trees
abbrev pub function_meaning : List Tree → Function → Meaning
function_meaning trees f = IsFunction (read_params trees f.params) (option_map (read_val trees) f.result)

-- the definition that a function is, as a list of one of an interface's, or of none of a world's, which is an item
abbrev pub named_function : List (List ℕ) → Owner → List ℕ → Meaning → List NamedDefinition
named_function interfaces (owner.Interface i) name m =
    record { key = record { interface = slice_index_or interfaces i.0 []; name = name }; meaning = m } ∷ []
named_function interfaces (owner.World w) name m = []

-- what a row defines under a name, as a list of one or none
abbrev pub definition_of : List (List ℕ) → List Tree → Definition → List NamedDefinition
definition_of interfaces trees (row.Type d) = named_by interfaces trees d.name d.kind
definition_of interfaces trees (row.Function f) = named_function interfaces f.owner f.name (function_meaning trees f)

-- what these rows define under names, in table order, over the trees of references to the rows before them
abbrev pub definitions_from : List (List ℕ) → List Tree → List Definition → List NamedDefinition
definitions_from interfaces trees [] = []
definitions_from interfaces trees (d ∷ ds) =
    definition_of interfaces trees d ++ definitions_from interfaces (trees ++ reference interfaces trees d ∷ []) ds

-- ---- what the items of worlds read as

-- a world's item that is this function; without a function, an interface of the empty name
abbrev pub function_item : List Tree → Direction → Option Function → ItemMeaning
function_item trees way None = WithInterface way []
function_item trees way (Some f) = WithFunction way f.name (read_params trees f.params) (option_map (read_val trees) f.result)

-- a world's item: an interface under its full name, or a function
abbrev pub item_meaning : List (List ℕ) → List Tree → List Definition → Direction → WorldItemKind → ItemMeaning
item_meaning interfaces trees rows way (item.Interface i) = WithInterface way (slice_index_or interfaces i.0 [])
item_meaning interfaces trees rows way (item.Function f) = function_item trees way (function_of (slice_get rows f.0))

-- what a world means: this full name, and its items in order
abbrev pub world_meaning : List (List ℕ) → List Tree → List Definition → List ℕ → World → WorldMeaning
world_meaning interfaces trees rows name w = record {
  name = name;
  items = map (λ i. item_meaning interfaces trees rows i.direction i.kind) w.items;
}

-- the full names of a table's interfaces, in order
abbrev pub interface_names : Resolve → List (List ℕ)
interface_names r = map (full_name r) r.interfaces

-- what a reference to each row of the table means, in table order
abbrev pub trees : Resolve → List Tree
trees r = references (interface_names r) [] r.definitions

-- the named types and functions of all interfaces, in table order
abbrev pub definitions : Resolve → List NamedDefinition
definitions r = definitions_from (interface_names r) [] r.definitions

-- the worlds of a table under their full names, in order
abbrev pub worlds : Resolve → List WorldMeaning
worlds r = map (λ w. world_meaning (interface_names r) (trees r) r.definitions (world_name r w) w) r.worlds

-- a package by names: its interfaces and worlds by their full names, and its definitions
pub record Package : Type 0 where
  pub interfaces : List (List ℕ)
  pub worlds : List WorldMeaning
  pub definitions : List NamedDefinition

-- what a table says by names: its interfaces and worlds by their full names, and its definitions
abbrev pub package_of : Resolve → Package
package_of r = record { interfaces = interface_names r; worlds = worlds r; definitions = definitions r }

-- ---- the law

-- the name is one of these
abbrev pub is_known : List Key → Key → Bool
is_known [] n = false
is_known (m ∷ ms) n = is_same_key m n || is_known ms n

-- a type's name, if it has one, is none of `seen`, and `rest` is true of `seen` with it
abbrev pub IsDistinctName : List (List ℕ) → List Key → Option TypeName → (List Key → Type 0) → Type 0
IsDistinctName interfaces seen None rest = rest seen
IsDistinctName interfaces seen (Some n) rest = (is_known seen (key_of interfaces n) ≡ false) × rest (seen ++ key_of interfaces n ∷ [])

-- no two types of these rows have the same name, and none has one of `seen`
abbrev pub HasDistinctTypes : List (List ℕ) → List Definition → List Key → Type 0
HasDistinctTypes interfaces [] seen = Unit {0}
HasDistinctTypes interfaces (row.Type d ∷ ds) seen = IsDistinctName interfaces seen d.name (HasDistinctTypes interfaces ds)
HasDistinctTypes interfaces (row.Function f ∷ ds) seen = HasDistinctTypes interfaces ds seen

-- a type of the package, closed by the names of the package alone, is its closed type
abbrev pub IsClosedByNames : Resolve → Type 0
IsClosedByNames r = (v : ValType) → closed_tree (environment [] (definitions r)) (read_val (trees r) v) ≡ closed_type r v

-- if no two types have the same name, names and table give each type the same closed type
abbrev pub ClosesAlike : Resolve → Type 0
ClosesAlike r = HasDistinctTypes (interface_names r) r.definitions [] → IsClosedByNames r
