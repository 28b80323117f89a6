use Rattle.std.proofs.Common.{sym, ◌∙◌, arith}
use Rattle.wit_tokens.specs.View.{world_entry_view}
use Rattle.tree_meaning.specs.Resolves.{world_entry_fits}
use Rattle.tree_names.proofs.NestingDepths.{all_false-at}
use Rattle.tree_names.proofs.nested.are_world_items_nested.Goals as goal

pub returns-then-not-is_world_item_nested : goal.returns-then-not-is_world_item_nested
returns-then-not-is_world_item_nested c =
    sym (all_false-at world_entry_fits world_entry_view c.args.items.now c.loop-item.item-index c.item-item.result (omega arith) c.item-item.is (sym c.is_world_item_nested.ensures ∙ c.if-not-is_world_item_nested.true))
