use Rattle.std.proofs.Common.{◌*◌, ◌<◌}
use Rattle.max_tree.proofs.MaximaTellTheRow.{Climbed}
use Rattle.max_tree.proofs.last_in.Given as goal

abbrev pub invariant-loop-node : goal.invariant-loop-node
invariant-loop-node l = record {
  some : 0 < l.node;
  within : l.node < 2 * l.count;
  climbed : Climbed l.tree l.count l.i l.node;
}

abbrev pub decreases-loop-node : goal.decreases-loop-node
decreases-loop-node l = l.node
