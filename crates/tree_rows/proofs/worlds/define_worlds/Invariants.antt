use Rattle.std.proofs.Common.{map, take, length}
use Rattle.std.specs.List.{filter_map}
use Rattle.wit_tokens.specs.View.{item_view}
use Rattle.tree_meaning.specs.Declarations.{world_of}
use Rattle.tree_meaning.specs.Resolved.{meaning_of_world}
use Rattle.tree_meaning.specs.WorldRows.{DefinesWorlds}
use Rattle.tree_rows.proofs.worlds.define_worlds.Given as goal

abbrev pub invariant-loop-item : goal.invariant-loop-item
invariant-loop-item l = DefinesWorlds l.initial.builder l.builder (length l.plan.imports.now.packages) l.worlds.items (map meaning_of_world (filter_map world_of (map item_view (take l.item-index l.items))))
