use Rattle.std.proofs.Common.{◌≡◌, ◌++◌, map, take}
use Rattle.wit_tokens.specs.View.{path_view, used_view}
use Rattle.tree_meaning.specs.Declarations.{used_item}
use Rattle.tree_scopes.specs.Lent.{used_item_of}
use Rattle.tree_scopes.proofs.declare.push_used.Given as goal

abbrev pub invariant-loop-used : goal.invariant-loop-used
invariant-loop-used l =
    map used_item_of l.uses.items ≡ map used_item_of l.initial.uses.items ++ map (used_item (path_view l.path)) (map used_view (take l.used-index l.names))
