use Rattle.std.proofs.Common.{◌∙◌}
use Rattle.tree_scopes.specs.Sources.{declared_tree}
use Rattle.tree_names.proofs.NamesAsGraphNodes.{type_graph-below}
use Rattle.tree_names.proofs.graphs.type_order.Goals as goal

pub ordered-requires : goal.ordered-requires
ordered-requires c = type_graph-below (declared_tree c.args.declared.now) c.deref.result.now (c.deref.ensures.value ∙ c.in_ok-graph.ensures)
