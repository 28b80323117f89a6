-- WIT.md, "Identifiers": the scopes of a package's table, in which names differ in more than the case of their letters.
use Rattle.std.specs.Prelude.{ℕ, ◌+◌, ◌==◌, Bool, true, false, if◌then◌else◌, List, [], ◌∷◌, ◌++◌, map, flat_map, Option, None, Some, Contains}
use Rattle.tables.specs.declared.tables.TypeDefKind.{TypeDefKind}
use Rattle.tables.specs.declared.tables.TypeDefKind.TheVariants as kind
use Rattle.tables.specs.declared.tables.TypeName.{TypeName}
use Rattle.tables.specs.declared.tables.Field.{Field}
use Rattle.tables.specs.declared.tables.Case.{Case}
use Rattle.tables.specs.declared.tables.Parameter.{Parameter}
use Rattle.tables.specs.declared.tables.Definition.{Definition}
use Rattle.tables.specs.declared.tables.Definition.TheVariants as row
use Rattle.tables.specs.declared.tables.Interface.{Interface}
use Rattle.tables.specs.declared.tables.Direction.{Direction}
use Rattle.tables.specs.declared.tables.Direction.TheVariants as direction
use Rattle.tables.specs.declared.tables.World.{World}
use Rattle.tables.specs.declared.tables.Resolve.{Resolve}
use Rattle.tables.specs.PackageNames.{PackageParts}
use Rattle.tables.specs.Package.{no_fields, field, ItemMeaning, WithInterface, WithFunction, WorldMeaning, worlds, TreeFields}
use Rattle.package_form.specs.Scope.{IsDuplicate}
use Rattle.package_form.specs.Ends.{end_of, rows_of}

-- the label of a record's field
abbrev pub field_name : Field → List ℕ
field_name f = f.name

-- the label of a variant's case
abbrev pub case_name : Case → List ℕ
case_name c = c.name

-- the label of a function's parameter
abbrev pub parameter_name : Parameter → List ℕ
parameter_name p = p.name

-- the label of an interface in its package
abbrev pub interface_name : Interface → List ℕ
interface_name i = i.name

-- the labels of a type's fields, cases or flags, or none of a type that has none
abbrev pub kind_members : TypeDefKind → List (List ℕ)
kind_members (kind.Record fs) = map field_name fs
kind_members (kind.Variant cs) = map case_name cs
kind_members (kind.Enum names) = names
kind_members (kind.Flags names) = names
kind_members _ = []

-- the labels of a row's fields, cases, flags or parameters
abbrev pub row_members : Definition → List (List ℕ)
row_members (row.Type d) = kind_members d.kind
row_members (row.Function f) = map parameter_name f.params

-- a type's name, as a list of one, or of none if it has no name
abbrev pub name_if : Option TypeName → List (List ℕ)
name_if None = []
name_if (Some n) = n.name ∷ []

-- the name of a row, as a list of one or none: uses, types and functions of an interface share a scope
abbrev pub row_names : Definition → List (List ℕ)
row_names (row.Type d) = name_if d.name
row_names (row.Function f) = f.name ∷ []

-- the scopes of an interface with these rows: their names, and the labels in each row
abbrev pub rows_scopes : List Definition → List (List (List ℕ))
rows_scopes ds = flat_map row_names ds ∷ map row_members ds

-- the scopes of each of these interfaces, the first of whose rows begin at start
abbrev pub interfaces_scopes : List Definition → ℕ → List Interface → List (List (List ℕ))
interfaces_scopes rows start [] = []
interfaces_scopes rows start (i ∷ is) = rows_scopes (rows_of rows start i) ++ interfaces_scopes rows (end_of start i) is

-- ---- worlds: the imports of one are a scope, and so are its exports; an interface stands there under its full name

-- whether both are imports or both are exports
abbrev pub is_direction : Direction → Direction → Bool
is_direction direction.Import direction.Import = true
is_direction direction.Import direction.Export = false
is_direction direction.Export direction.Import = false
is_direction direction.Export direction.Export = true

-- whether a world imports or exports this item
abbrev pub item_direction : ItemMeaning → Direction
item_direction (WithInterface way name) = way
item_direction (WithFunction way name params result) = way

-- the name of a world's item: a function's own, or an interface's full name
abbrev pub item_name : ItemMeaning → List ℕ
item_name (WithInterface way name) = name
item_name (WithFunction way name params result) = name

-- the labels of a chain of fields, in order
abbrev pub field_labels : TreeFields → List (List ℕ)
field_labels no_fields = []
field_labels (field label t fs) = label ∷ field_labels fs

-- the parameters of a world's item that is a function, or none of an interface
abbrev pub item_parameters : ItemMeaning → List (List ℕ)
item_parameters (WithInterface way name) = []
item_parameters (WithFunction way name params result) = field_labels params

-- the name of an import, or of an export, as a list of one, or of none of an item of the other direction
abbrev pub name_in : Direction → ItemMeaning → List (List ℕ)
name_in way i = if is_direction way (item_direction i) then item_name i ∷ [] else []

-- the scopes of a world: the names of its imports, those of its exports, and the parameters of each function
abbrev pub world_scopes : WorldMeaning → List (List (List ℕ))
world_scopes w = flat_map (name_in direction.Import) w.items ∷ flat_map (name_in direction.Export) w.items ∷ map item_parameters w.items

-- the name of a world in its package
abbrev pub label_of : World → List ℕ
label_of w = w.name

-- ---- the names of the interfaces and of the worlds of one package are a scope

-- the interface's name, as a list of one, or of none if it is not of package k
abbrev pub interface_label_of : ℕ → Interface → List (List ℕ)
interface_label_of k i = if i.«package».0 == k then i.name ∷ [] else []

-- the world's name, as a list of one, or of none if it is not of package k
abbrev pub world_label_of : ℕ → World → List (List ℕ)
world_label_of k w = if w.«package».0 == k then w.name ∷ [] else []

-- the names of package k's interfaces, in order
abbrev pub interface_labels_of : List Interface → ℕ → List (List ℕ)
interface_labels_of is k = flat_map (interface_label_of k) is

-- the names of package k's worlds, in order
abbrev pub world_labels_of : List World → ℕ → List (List ℕ)
world_labels_of ws k = flat_map (world_label_of k) ws

-- a scope of each of these packages, the first of which is package k
abbrev pub of_each : (ℕ → List (List ℕ)) → ℕ → List PackageParts → List (List (List ℕ))
of_each names k [] = []
of_each names k (p ∷ ps) = names k ∷ of_each names (k + 1) ps

-- all scopes: of each package its interfaces and worlds, of each interface its rows, of each world its items
abbrev pub table_scopes : List PackageParts → List Definition → List Interface → List World → List WorldMeaning → List (List (List ℕ))
table_scopes ps rows is ws meanings =
    of_each (λ k. interface_labels_of is k ++ world_labels_of ws k) 0 ps ++ (interfaces_scopes rows 0 is ++ flat_map world_scopes meanings)

-- all scopes of a package's table, each as its list of names
abbrev pub package_scopes : Resolve → List (List (List ℕ))
package_scopes r = table_scopes r.packages r.definitions r.interfaces r.worlds (worlds r)

-- a name of this spelling repeats one before it in a scope of the table
abbrev pub Repeats : Resolve → List ℕ → Type 0
Repeats r name = (names : List (List ℕ)) × Contains (package_scopes r) names × IsDuplicate names name
