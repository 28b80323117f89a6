use Rattle.std.proofs.Common.{◌-◌, ℕ, ◌+◌, ◌*◌, ◌^◌, ◌<◌, ◌≤◌}
use Rattle.max_tree.proofs.MaximaTellTheRow.{Trailed}
use Rattle.max_tree.proofs.last_under.Given as goal

abbrev pub invariant-loop-node : goal.invariant-loop-node
invariant-loop-node l = record {
  some : 0 < l.node;
  trailed : (h : ℕ) → l.count ≤ l.fn.node * 2 ^ h → l.fn.node * 2 ^ h + 2 ^ h ≤ 2 * l.count
      → Trailed l.tree l.count (l.fn.node * 2 ^ h) (l.fn.node * 2 ^ h + 2 ^ h) l.node;
  within : l.node < 2 * l.count;
}

abbrev pub decreases-loop-node : goal.decreases-loop-node
decreases-loop-node l = l.count - l.node
