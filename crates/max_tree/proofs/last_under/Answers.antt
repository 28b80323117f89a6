use Rattle.std.proofs.Common.{◌≡◌, ◌⊎◌, inl, inr, ℕ, ◌+◌, ◌-◌, ◌*◌, ◌^◌, ◌<◌, List, get_or, arith}
use Rattle.max_tree.proofs.MaximaTellTheRow.{trailed_below, trailed_end}
use Rattle.max_tree.proofs.last_under.Goals as goal

pub loop-node-preserved : goal.loop-node-preserved
loop-node-preserved c =
    let tree = c.args.tree.now in
    let count = c.args.count in
    let node = c.loop-node.node in
    let v = c.loop-node.invariant in
    record {
      some = some node c.later-node.result tree v.some c.later-node.ensures;
      trailed = λ h r f. trailed_below tree count (c.args.node * 2 ^ h) (c.args.node * 2 ^ h + 2 ^ h) node c.later-node.result c.requires.maxima (v.trailed h r f) v.some c.loop-node-test.true c.later-node.ensures;
      within = within node c.later-node.result count tree c.loop-node-test.true c.later-node.ensures;
    }
  where
    some : (node next : ℕ) (tree : List ℕ) → 0 < node → ((next ≡ 2 * node + 1) × (0 < get_or tree (2 * node + 1) 0)) ⊎ ((next ≡ 2 * node) × (get_or tree (2 * node + 1) 0 ≡ 0)) → 0 < next
    some node next tree h (inl s) = omega (arith, s.0)
    some node next tree h (inr s) = omega (arith, s.0)

    within : (node next count : ℕ) (tree : List ℕ) → node < count → ((next ≡ 2 * node + 1) × (0 < get_or tree (2 * node + 1) 0)) ⊎ ((next ≡ 2 * node) × (get_or tree (2 * node + 1) 0 ≡ 0)) → next < 2 * count
    within node next count tree h (inl s) = omega (arith, s.0)
    within node next count tree h (inr s) = omega (arith, s.0)

pub returns : goal.returns
returns c = λ h r f.
    (let v = c.loop-node.invariant in
    trailed_end c.args.tree.now c.args.count (c.args.node * 2 ^ h) (c.args.node * 2 ^ h + 2 ^ h) c.loop-node.node (v.trailed h r f) v.some c.loop-node-test.false (c.loop-node.node - c.args.count) (omega arith))
