-- Type entries: all that takes a type index in a package's binary.
use Rattle.std.specs.Prelude.{ℕ, ◌+◌, List, map, sum, length, Option, None, Some}
use Rattle.tables.specs.declared.tables.Interface.{Interface}
use Rattle.tables.specs.declared.tables.ValType.TheVariants as val
use Rattle.tables.specs.declared.tables.TypeDefKind.{TypeDefKind}
use Rattle.tables.specs.declared.tables.TypeDefKind.TheVariants as kind
use Rattle.tables.specs.declared.tables.TypeName.{TypeName}
use Rattle.tables.specs.declared.tables.Definition.{Definition}
use Rattle.tables.specs.declared.tables.Definition.TheVariants as row
use Rattle.tables.specs.declared.tables.WorldItemKind.{WorldItemKind}
use Rattle.tables.specs.declared.tables.WorldItemKind.TheVariants as item
use Rattle.tables.specs.declared.tables.WorldItem.{WorldItem}
use Rattle.tables.specs.declared.tables.World.{World}
use Rattle.tables.specs.declared.tables.Resolve.{Resolve}

-- the labels of interfaces, the worlds and the definitions of a package
pub record Table : Type 0 where
  pub interfaces : List (List ℕ)
  pub worlds : List World
  pub rows : List Definition

-- the names of interfaces as they are in their packages, in order
abbrev pub labels_of : List Interface → List (List ℕ)
labels_of is = map (λ i. i.name) is

-- the interfaces by their labels, the worlds and the rows of a package's table
abbrev pub table_of : Resolve → Table
table_of r = record { interfaces = labels_of r.interfaces; worlds = r.worlds; rows = r.definitions }

-- a used name has an alias in the component type, an outer alias and an export; a new name of a named type its export alone
abbrev pub entries_under : Option TypeName → TypeDefKind → ℕ
entries_under None k = 1
entries_under (Some n) (kind.Use t) = 3
entries_under (Some n) (kind.Alias (val.Id t)) = 1
entries_under (Some n) k = 2

-- the type indices that a row takes: a function takes that of its type
abbrev pub entries_of : Definition → ℕ
entries_of (row.Type d) = entries_under d.name d.kind
entries_of (row.Function f) = 1

-- the type indices that a world's item takes: an interface an outer alias, a function none besides those of its rows
abbrev pub item_entries : WorldItemKind → ℕ
item_entries (item.Interface i) = 1
item_entries (item.Function f) = 0

-- the type indices that an item of a world takes by itself
abbrev pub entries_at : WorldItem → ℕ
entries_at i = item_entries i.kind

-- the type indices that a world takes: its component type, and an outer alias for each interface among its items
abbrev pub world_entries : World → ℕ
world_entries w = 1 + sum (map entries_at w.items)

-- the component type, an instance type for each interface, a component type for each world with its aliases, and what each row takes
abbrev pub type_entries : Table → ℕ
type_entries t = 1 + length t.interfaces + (sum (map world_entries t.worlds) + sum (map entries_of t.rows))
