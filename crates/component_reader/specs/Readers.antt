-- What the crate's readers have read.
use Rattle.std.specs.Prelude.{List, ℕ, map}
use Rattle.std.specs.Option.{option_map}
use Rattle.std.specs.Global.{Vec}
use Rattle.package_form.specs.Scoped.{NameEntry, mapped_entry}
use Rattle.tables.specs.declared.tables.TypeId.{TypeId}
use Rattle.tables.specs.declared.tables.Definition.{Definition}
use Rattle.component_reader.specs.Instance.{Awaited, Nothing, AType, AFunction, InstanceRead}
use Rattle.component_reader.specs.World.{WorldRead}
use Rattle.component_reader.specs.Component.{ComponentRead}
use Rattle.component_reader.specs.declared.instance.Awaited.{Awaited as Defined}
use Rattle.component_reader.specs.declared.instance.Awaited.TheVariants as defined
use Rattle.component_reader.specs.declared.instance.InstanceReader.{InstanceReader}
use Rattle.component_reader.specs.declared.world.WorldReader.{WorldReader}
use Rattle.component_reader.specs.declared.component.ComponentReader.{ComponentReader}

-- what the last definition defines, while its export may still come
abbrev pub awaited_view : Defined → Awaited
awaited_view defined.Nothing = Nothing
awaited_view (defined.«Type» k) = AType k
awaited_view (defined.Function ps result) = AFunction ps result

-- the types that an instance type exports, by name
abbrev pub names_view : List (Vec ℕ × TypeId) → List NameEntry
names_view es = map (mapped_entry (λ v. v.items)) es

-- what was read of an instance type, with the rows of the table
abbrev pub read_with : List Definition → InstanceReader → InstanceRead
read_with rows r = record {
  rows = rows;
  indices = r.indices.items;
  awaited = awaited_view r.awaited;
  names = names_view r.names.entries;
  uses = r.uses.items;
  types = r.types.items;
  functions = r.functions.items;
}

-- what was read of a world's component type, with the rows of the table
abbrev pub world_with : List Definition → WorldReader → WorldRead
world_with rows w = record { inside = read_with rows w.inside; items = w.items.items; interface = w.interface }

-- what was read of the component type so far
abbrev pub component_view : ComponentReader → ComponentRead
component_view c = record {
  packages = c.packages.items;
  rows = c.rows.items;
  interfaces = c.interfaces.items;
  exports = map (λ m. names_view m.entries) c.exports.items;
  worlds = c.worlds.items;
  indices = c.indices.items;
  instances = c.instances.items;
  awaited = option_map (read_with c.rows.items) c.awaited;
  awaited_world = option_map (world_with c.rows.items) c.awaited_world;
}
