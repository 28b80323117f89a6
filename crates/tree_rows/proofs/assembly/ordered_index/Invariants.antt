use Rattle.std.proofs.Common.{◌≡◌, map, take}
use Rattle.tree_meaning.specs.Resolves.{names_in_order}
use Rattle.tree_scopes.specs.Lent.{lent_names}
use Rattle.tree_scopes.specs.Sources.{declared_tree}
use Rattle.tree_rows.proofs.assembly.ordered_index.Given as goal

abbrev pub invariant-loop-place : goal.invariant-loop-place
invariant-loop-place l = lent_names l.names.items ≡ names_in_order (map declared_tree l.all) (take l.place-index l.order)
