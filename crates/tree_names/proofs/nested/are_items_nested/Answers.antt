use Rattle.std.proofs.Common.{sym, ◌∙◌, arith}
use Rattle.wit_tokens.specs.View.{entry_view}
use Rattle.tree_meaning.specs.Resolves.{entry_fits}
use Rattle.tree_names.proofs.NestingDepths.{all_false-at}
use Rattle.tree_names.proofs.nested.are_items_nested.Goals as goal

pub returns-then-not-is_item_nested : goal.returns-then-not-is_item_nested
returns-then-not-is_item_nested c =
    sym (all_false-at entry_fits entry_view c.args.items.now c.loop-item.item-index c.item-item.result (omega arith) c.item-item.is (sym c.is_item_nested.ensures ∙ c.if-not-is_item_nested.true))
