use Rattle.std.proofs.Common.{◌-◌, arith}
use Rattle.std.proofs.lemmas.List.{get_or-drop}
use Rattle.max_tree.proofs.MaximaTellTheRow.{before_odd, climbed_first, climbed_found, climbed_out, climbed_up}
use Rattle.max_tree.proofs.last_in.Goals as goal
use Rattle.max_tree.proofs.last_in.Goals.{else-node-eq1-via-then-node-eq1+else-tree-node-gt0-2, else-node-eq1-via-else-node-eq1}

pub loop-node-preserved : goal.loop-node-preserved
loop-node-preserved c =
    let t = c.requires.tree in
    let tree = c.args.tree.now in
    let node = c.loop-node.node in
    let v = c.loop-node.invariant in
    elim c.else-node-eq1.branch [
      | else-node-eq1-via-then-node-eq1+else-tree-node-gt0-2 w ↦
          record {
            some = omega arith;
            within = omega (arith, v.within);
            climbed = climbed_up tree c.args.count c.args.i node t.maxima v.climbed c.loop-node-test.true (λ e. omega (arith, w.if-tree-node-gt0-2.false));
          }
      | else-node-eq1-via-else-node-eq1 w ↦
          record {
            some = omega arith;
            within = omega (arith, v.within);
            climbed = climbed_up tree c.args.count c.args.i node t.maxima v.climbed c.loop-node-test.true (λ e. absurd (w.if-node-eq1.false e));
          }
    ]

pub returns-then-tree-node-gt0-2 : goal.returns-then-tree-node-gt0-2
returns-then-tree-node-gt0-2 c =
    let v = c.loop-node.invariant in
    let tree = c.args.tree.now in
    let before = before_odd tree c.args.count c.args.i c.loop-node.node v.climbed c.loop-node-test.true c.if-node-eq1.true in
    climbed_found tree c.args.count c.args.i c.loop-node.node c.last_under.result v.climbed before (c.last_under.ensures v.climbed.height before.reaches before.fits)

pub loop-node-init : goal.loop-node-init
loop-node-init c =
    let t = c.requires.tree in
    let powers = t.powers in
    record {
      some = omega arith;
      within = omega arith;
      climbed = climbed_first c.args.tree.now c.args.count c.args.depth c.args.i t.powers c.requires.some c.requires.within (omega arith);
    }

pub returns-then-tree-node-gt0 : goal.returns-then-tree-node-gt0
returns-then-tree-node-gt0 c = (
  omega arith,
  rw (get_or-drop c.args.count c.args.tree.now (c.args.i - 1) 0) c.if-tree-node-gt0.true,
  λ k a b. absurd (omega arith),
)

pub returns : goal.returns
returns c =
    let v = c.loop-node.invariant in
    climbed_out c.args.tree.now c.args.count c.args.i c.loop-node.node v.climbed c.loop-node-test.false v.some
