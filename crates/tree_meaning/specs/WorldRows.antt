-- What the building of worlds adds to a table.
use Rattle.std.specs.Prelude.{ℕ, ◌+◌, ◌≡◌, Bool, true, ◌&&◌, ◌==◌, List, [], ◌∷◌, ◌++◌, map, flat_map, length, slice_get, Option, None, Some}
use Rattle.std.specs.List.{list_all}
use Rattle.tables.specs.Tables.{is_type, function_all, function_of, is_placed_item}
use Rattle.tables.specs.Package.{ItemMeaning, WorldMeaning, item_meaning}
use Rattle.package_form.specs.Postfix.{Leaves}
use Rattle.package_form.specs.Entries.{Table}
use Rattle.package_form.specs.Form.{functions_in_item, functions_of}
use Rattle.tree_meaning.specs.Building.{IsTableFront, table_trees, table_definitions, world_functions}
use Rattle.tables.specs.declared.tables.Function.{Function}
use Rattle.tables.specs.declared.tables.Definition.{Definition}
use Rattle.tables.specs.declared.tables.WorldItemKind.{WorldItemKind}
use Rattle.tables.specs.declared.tables.WorldItemKind.TheVariants as item
use Rattle.tables.specs.declared.tables.WorldItem.{WorldItem}
use Rattle.tables.specs.declared.tables.World.{World}

-- the table got these functions of worlds, and no definition of an interface; no row is left to be used
pub record AddsFunctions (old new : Table) (functions : List ℕ) : Type 0 where
  pub front : IsTableFront old new
  pub same : table_definitions new ≡ table_definitions old
  pub postfix : Leaves old.rows [] → Leaves new.rows []
  pub own : world_functions new ≡ world_functions old ++ functions

-- the types of the function are primitives, string or rows of the table, if there is a function
abbrev pub is_typed : List Definition → Option Function → Bool
is_typed rows None = true
is_typed rows (Some f) = function_all (is_type rows) f

-- the item is an interface, or a function whose types are in the table
abbrev pub has_types : List Definition → WorldItemKind → Bool
has_types rows (item.Interface i) = true
has_types rows (item.Function f) = is_typed rows (function_of (slice_get rows f.0))

-- the item of world k is an interface of the table, or a function of that world whose types are in the table
abbrev pub item_stands : Table → ℕ → WorldItem → Bool
item_stands t k i = is_placed_item t.rows (length t.interfaces) k i.kind && has_types t.rows i.kind

-- the world is of the package after so many others, and its items are in the table as those of world k
abbrev pub world_stands : ℕ → Table → ℕ → World → Bool
world_stands own t k w = w.«package».0 == own && list_all (item_stands t k) w.items

-- each of these worlds is in the table with its items, the first as world k
abbrev pub worlds_stand : ℕ → Table → ℕ → List World → Bool
worlds_stand own t k [] = true
worlds_stand own t k (w ∷ ws) = world_stands own t k w && worlds_stand own t (k + 1) ws

-- an item of a world in the table, by the names of what it imports or exports
abbrev pub item_reads : Table → WorldItem → ItemMeaning
item_reads t i = item_meaning t.interfaces (table_trees t) t.rows i.direction i.kind

-- a world in the table, with its items by their names
abbrev pub world_reads : Table → World → WorldMeaning
world_reads t w = record { name = w.name; items = map (item_reads t) w.items }

-- the table of a builder with these worlds
abbrev pub with_worlds : Table → List World → Table
with_worlds t ws = record { interfaces = t.interfaces; worlds = ws; rows = t.rows }

-- the table got the rows of an item of the world at place k, which reads so
pub record DefinesItem (old new : Table) (k : ℕ) (i : WorldItem) (m : ItemMeaning) : Type 0 where
  pub adds : AddsFunctions old new (functions_in_item i)
  pub stands : item_stands new k i ≡ true
  pub reads : item_reads new i ≡ m

-- the table got the rows of these items of the world at place k, in order, which read so
pub record DefinesItems (old new : Table) (k : ℕ) (is : List WorldItem) (ms : List ItemMeaning) : Type 0 where
  pub adds : AddsFunctions old new (flat_map functions_in_item is)
  pub stand : list_all (item_stands new k) is ≡ true
  pub read : map (item_reads new) is ≡ ms

-- the table got the rows of the items of the world at place k, and the world reads so
pub record DefinesWorld (old new : Table) (own k : ℕ) (w : World) (m : WorldMeaning) : Type 0 where
  pub adds : AddsFunctions old new (functions_of w)
  pub stands : world_stands own new k w ≡ true
  pub reads : world_reads new w ≡ m

-- the table got the rows of these worlds' items, the first world at place 0, and they read so
pub record DefinesWorlds (old new : Table) (own : ℕ) (ws : List World) (ms : List WorldMeaning) : Type 0 where
  pub adds : AddsFunctions old new (flat_map functions_of ws)
  pub stand : worlds_stand own new 0 ws ≡ true
  pub read : map (world_reads new) ws ≡ ms
