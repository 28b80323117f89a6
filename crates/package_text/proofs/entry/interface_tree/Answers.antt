use Rattle.std.proofs.Common.{map, ap}
use Rattle.wit_tokens.specs.Syntax.{AnInterface}
use Rattle.wit_tokens.specs.View.{entry_view}
use Rattle.package_text.proofs.WrittenTrees.EntriesOfRows.{interface-pushed}
use Rattle.package_text.proofs.entry.interface_tree.Goals as goal

pub returns : goal.returns
returns c =
    let entries = interface-pushed c.args.resolve.now c.args.interface.now c.as_slice.result.now c.as_slice-2.result.now c.as_slice-3.result.now _ _ _ _ c.as_slice.ensures c.as_slice-2.ensures
    c.as_slice-3.ensures (ap (map entry_view) c.new-items.ensures.items) c.in_ok-push_types.ensures c.in_ok-push_types-2.ensures c.in_ok-push_functions.ensures in
    λ j. AnInterface (c.in_ok-copy.ensures j) (entries j)
