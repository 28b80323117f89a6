use Rattle.std.proofs.Common.{◌≡◌, ◌⊎◌, inl, inr, ℕ, ◌+◌, ◌*◌, ◌<◌, ◌≤◌, max, List, get_or, arith}
use Rattle.max_tree.proofs.MaximaTellTheRow.{passed_below, first_found, none_found}
use Rattle.max_tree.proofs.first_in.Goals as goal

pub loop-node-preserved : goal.loop-node-preserved
loop-node-preserved c =
    let t = c.requires in
    let tree = c.args.tree.now in
    let node = c.loop-node.node in
    let is = t.maxima node c.loop-node.invariant.some c.loop-node-test.true in
    record {
      some = some node c.below-node.result c.args.size tree c.loop-node.invariant.some c.below-node.ensures;
      enough = enough node c.below-node.result c.args.size tree is c.loop-node.invariant.enough c.below-node.ensures;
      passed = passed_below tree c.args.count node c.args.size c.below-node.result t.maxima c.loop-node.invariant.passed c.loop-node.invariant.some c.loop-node-test.true c.below-node.ensures;
    }
  where
    some : (node next size : ℕ) (tree : List ℕ) → 0 < node → ((next ≡ 2 * node) × (size ≤ get_or tree (2 * node) 0)) ⊎ ((next ≡ 2 * node + 1) × (get_or tree (2 * node) 0 < size)) → 0 < next
    some node next size tree h (inl s) = omega (arith, s.0)
    some node next size tree h (inr s) = omega (arith, s.0)

    enough : (node next size : ℕ) (tree : List ℕ) → get_or tree node 0 ≡ max (get_or tree (2 * node) 0) (get_or tree (2 * node + 1) 0) → size ≤ get_or tree node 0
        → ((next ≡ 2 * node) × (size ≤ get_or tree (2 * node) 0)) ⊎ ((next ≡ 2 * node + 1) × (get_or tree (2 * node) 0 < size)) → size ≤ get_or tree next 0
    enough node next size tree is h (inl s) = rw s.0 s.1
    enough node next size tree is h (inr s) = rw s.0 (omega (arith, s.1))

pub returns-then-tree-size : goal.returns-then-tree-size
returns-then-tree-size c =
    none_found c.args.tree.now c.args.depth c.args.count c.args.size c.requires c.if-tree-size.true

pub returns : goal.returns
returns c =
    let v = c.loop-node.invariant in
    first_found c.args.tree.now c.args.depth c.args.count c.loop-node.node c.args.size c.requires v.passed v.some c.loop-node-test.false v.enough
