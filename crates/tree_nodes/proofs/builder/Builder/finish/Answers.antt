use Rattle.std.proofs.Common.{arith}
use Rattle.std.specs.Prelude.{reverse}
use Rattle.tree_nodes.proofs.ForestsGrow.{left_whole, left_few}
use Rattle.tree_nodes.proofs.builder.Builder.finish.Goals as goal

pub returns-then-self-count-clause-nest : goal.returns-then-self-count-clause-nest
returns-then-self-count-clause-nest c =
    let b = c.args.self in
    left_whole b.taken c.args.count b.nodes.items (reverse b.opened.items) (omega (arith, b.within, c.if-self-count.true)) b.growing

pub returns-then-self-count-clause-few : goal.returns-then-self-count-clause-few
returns-then-self-count-clause-few c = left_few c.args.count c.args.self.nodes.items (returns-then-self-count-clause-nest c)
