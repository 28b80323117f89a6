use Rattle.std.proofs.Common.{◌-◌, ◌<◌, ◌≤◌, get_or}
use Rattle.max_tree.proofs.MaximaTellTheRow.{Passed}
use Rattle.max_tree.proofs.first_in.Given as goal

abbrev pub invariant-loop-node : goal.invariant-loop-node
invariant-loop-node l = record {
  some : 0 < l.node;
  enough : l.size ≤ get_or l.tree l.node 0;
  passed : Passed l.tree l.count l.node l.size;
}

abbrev pub decreases-loop-node : goal.decreases-loop-node
decreases-loop-node l = l.count - l.node
