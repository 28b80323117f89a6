use Rattle.std.proofs.Common.{map, ◌∙◌}
use Rattle.tree_scopes.specs.Sources.{declared_tree}
use Rattle.tree_names.proofs.NamesAsGraphNodes.{interface_graph-below}
use Rattle.tree_names.proofs.graphs.interface_order.Goals as goal

pub ordered-requires : goal.ordered-requires
ordered-requires c = interface_graph-below (map declared_tree c.args.all.now) c.deref.result.now (c.deref.ensures.value ∙ c.in_ok-graph.ensures)
