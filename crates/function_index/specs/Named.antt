-- WIT.md, "Item: `world`": which function the full name of a world, a side and a name stand for.
use Rattle.std.specs.Prelude.{◌≡◌, ℕ, List, Some, Contains}
use Rattle.tables.specs.Names.{function_name, world_name}
use Rattle.tables.specs.declared.tables.Direction.{Direction}
use Rattle.tables.specs.declared.tables.FunctionId.{FunctionId}
use Rattle.tables.specs.declared.tables.Resolve.{Resolve}
use Rattle.tables.specs.declared.tables.World.{World}
use Rattle.tables.specs.declared.tables.WorldItem.{WorldItem}
use Rattle.tables.specs.declared.tables.WorldItemKind.TheVariants as kind

-- the item of this side that is the function f
abbrev pub function_item : Direction → FunctionId → WorldItem
function_item side f = record { direction = side; kind = kind.Function f }

-- f is an item of this side, and its function has this name
abbrev pub IsNamedItem : Resolve → List WorldItem → Direction → List ℕ → FunctionId → Type 0
IsNamedItem r items side name f = Contains items (function_item side f) × (function_name r f ≡ Some name)

-- f stands under this name on this side of a world of this full name
abbrev pub IsNamedOfWorld : Resolve → List ℕ → Direction → List ℕ → FunctionId → Type 0
IsNamedOfWorld r world side name f = (w : World) × Contains r.worlds w × (world ≡ world_name r w) × IsNamedItem r w.items side name f
