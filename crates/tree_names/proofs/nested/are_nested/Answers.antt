use Rattle.std.proofs.Common.{sym, ◌∙◌, arith}
use Rattle.wit_tokens.specs.View.{item_view}
use Rattle.tree_meaning.specs.Resolves.{interface_fits}
use Rattle.tree_names.proofs.NestingDepths.{all_false-at}
use Rattle.tree_names.proofs.nested.are_nested.Goals as goal

pub returns-then-not-is_entry_nested : goal.returns-then-not-is_entry_nested
returns-then-not-is_entry_nested c =
    sym (all_false-at interface_fits item_view c.args.items.now c.loop-item.item-index c.item-item.result (omega arith) c.item-item.is (sym c.is_entry_nested.ensures ∙ c.if-not-is_entry_nested.true))
