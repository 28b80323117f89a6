use Rattle.std.proofs.Common.{◌+◌, arith}
use Rattle.std.specs.Prelude.{reverse}
use Rattle.tree_nodes.proofs.ForestsGrow.{taken_on}
use Rattle.tree_nodes.proofs.builder.Builder.take.Goals as goal

pub invariant_of-self : goal.invariant_of-self
invariant_of-self c =
    let b = c.args.self.now in
    record {
      within = omega (arith, c.if-self.true);
      growing = taken_on b.taken (b.taken + 1) b.nodes.items (reverse b.opened.items) (omega arith) b.growing;
    }
