use Rattle.std.proofs.Common.{List, ℕ, map, sym, subst}
use Rattle.placement.specs.Order.{IsPlacement}
use Rattle.tree_meaning.specs.Resolves.{interface_uses}
use Rattle.tree_scopes.specs.Sources.{declared_tree}
use Rattle.tree_scopes.proofs.DeclaredTrees.{order-below}
use Rattle.tree_rows.proofs.tree.defined.Goals as goal

pub ordered_names-requires : goal.ordered_names-requires
ordered_names-requires c =
    order-below c.args.all.now c.as_slice-2.result.now
    (subst (λ (o : List ℕ). IsPlacement (interface_uses (map declared_tree c.args.all.now)) o) (sym c.as_slice-2.ensures) c.in_ok-order.ensures.ok)
