use Rattle.std.proofs.Common.{◌≡◌, ℕ, ◌+◌, ◌*◌, ◌/◌, ◌<◌, max, drop, set, get_or}
use Rattle.max_tree.proofs.put_in.Given as goal

abbrev pub invariant-loop-node : goal.invariant-loop-node
invariant-loop-node l = record {
  some : 0 < l.node;
  within : l.node < 2 * l.count;
  maxima : (k : ℕ) → 0 < k → k < l.count → (k ≡ l.node / 2 → ⊥) → get_or l.tree k 0 ≡ max (get_or l.tree (2 * k) 0) (get_or l.tree (2 * k + 1) 0);
  row : drop l.count l.tree ≡ set (drop l.count l.fn.tree) l.i l.number;
}

abbrev pub decreases-loop-node : goal.decreases-loop-node
decreases-loop-node l = l.node
