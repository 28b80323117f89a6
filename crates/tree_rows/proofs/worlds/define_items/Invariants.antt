use Rattle.std.proofs.Common.{map, take}
use Rattle.tree_meaning.specs.Resolved.{tree_item_meaning}
use Rattle.tree_scopes.specs.Sources.{declared_item}
use Rattle.tree_meaning.specs.WorldRows.{DefinesItems}
use Rattle.tree_rows.proofs.worlds.define_items.Given as goal

abbrev pub invariant-loop-item : goal.invariant-loop-item
invariant-loop-item l = DefinesItems l.initial.builder l.builder l.world.0 l.defined.items (map tree_item_meaning (map declared_item (take l.item-index l.items)))
