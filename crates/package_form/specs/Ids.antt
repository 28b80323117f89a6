-- The ids of interfaces: the places of their used names, their types and their functions in the table.
use Rattle.std.specs.Prelude.{ℕ, ◌+◌, Bool, true, false, List, [], ◌∷◌, map, Option, None, Some, if◌then◌else◌, ◌==◌, ◌&&◌, not}
use Rattle.tables.specs.declared.tables.PackageId.{PackageId}
use Rattle.tables.specs.declared.tables.TypeId.{TypeId}
use Rattle.tables.specs.declared.tables.FunctionId.{FunctionId}
use Rattle.tables.specs.declared.tables.TypeDefKind.{TypeDefKind}
use Rattle.tables.specs.declared.tables.TypeDefKind.TheVariants as kind
use Rattle.tables.specs.declared.tables.TypeName.{TypeName}
use Rattle.tables.specs.declared.tables.Owner.{Owner}
use Rattle.tables.specs.declared.tables.Owner.TheVariants as owner
use Rattle.tables.specs.declared.tables.Definition.{Definition}
use Rattle.tables.specs.declared.tables.Definition.TheVariants as row
use Rattle.tables.specs.declared.tables.Interface.{Interface}
use Rattle.package_form.specs.Entries.{Table}

-- the places of the rows with this property, the first of which stands at place n
abbrev pub places_where : (Definition → Bool) → ℕ → List Definition → List ℕ
places_where is n [] = []
places_where is n (d ∷ ds) = if is d then n ∷ places_where is (n + 1) ds else places_where is (n + 1) ds

-- the name is of interface i; none is of no interface
abbrev pub is_in : ℕ → Option TypeName → Bool
is_in i None = false
is_in i (Some n) = n.interface.0 == i

-- a type that is a used name
abbrev pub is_use : TypeDefKind → Bool
is_use (kind.Use t) = true
is_use _ = false

-- the row is a used name of interface i
abbrev pub is_use_in : ℕ → Definition → Bool
is_use_in i (row.Type d) = is_in i d.name && is_use d.kind
is_use_in i (row.Function f) = false

-- the row is a named type of interface i, and no used name
abbrev pub is_type_in : ℕ → Definition → Bool
is_type_in i (row.Type d) = is_in i d.name && not (is_use d.kind)
is_type_in i (row.Function f) = false

-- the function's owner is interface i
abbrev pub is_owned_by : ℕ → Owner → Bool
is_owned_by i (owner.Interface k) = k.0 == i
is_owned_by i (owner.World w) = false

-- the row is a function of interface i
abbrev pub is_function_in : ℕ → Definition → Bool
is_function_in i (row.Type d) = false
is_function_in i (row.Function f) = is_owned_by i f.owner

-- the owner is a world
abbrev pub is_of_worlds : Owner → Bool
is_of_worlds (owner.Interface i) = false
is_of_worlds (owner.World w) = true

-- the row is a function that a world imports or exports
abbrev pub is_world_function : Definition → Bool
is_world_function (row.Type d) = false
is_world_function (row.Function f) = is_of_worlds f.owner

-- the index n into the packages
abbrev pub package_id : ℕ → PackageId
package_id n = record { 0 = n }

-- the index n into the rows, of a type
abbrev pub type_id : ℕ → TypeId
type_id n = record { 0 = n }

-- the index n into the rows, of a function
abbrev pub function_id : ℕ → FunctionId
function_id n = record { 0 = n }

-- interface i of these rows, in the first package: its used names, its types and its functions in table order
abbrev pub interface_in : List Definition → ℕ → List ℕ → Interface
interface_in rows i name = record {
  «package» = package_id 0;
  name = name;
  uses = map type_id (places_where (is_use_in i) 0 rows);
  types = map type_id (places_where (is_type_in i) 0 rows);
  functions = map function_id (places_where (is_function_in i) 0 rows);
}

-- the interfaces of these names over the rows, the first of which is interface i
abbrev pub interfaces_from : List Definition → ℕ → List (List ℕ) → List Interface
interfaces_from rows i [] = []
interfaces_from rows i (n ∷ ns) = interface_in rows i n ∷ interfaces_from rows (i + 1) ns

-- the interfaces of these labels with the ids of their rows, all in the first package
abbrev pub interfaces_in : Table → List Interface
interfaces_in t = interfaces_from t.rows 0 t.interfaces
