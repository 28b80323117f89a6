use Rattle.std.proofs.Common.{◌≡◌, true, is_ok, length, arith}
use Rattle.tree_nodes.proofs.ForestsGrow.{put}
use Rattle.tree_nodes.proofs.builder.Builder.start_node.Goals as goal

pub invariant_of-self-else-is_err : goal.invariant_of-self-else-is_err
invariant_of-self-else-is_err c =
    let b = c.args.self.now in
    let ok : is_ok c.push.result ≡ true = grind (arith, c.is_err.ensures.negation, c.if-is_err.false) in
    let same : c.len.result ≡ length b.nodes.items = omega (arith, c.len.ensures) in
    record {
      within = b.within;
      growing = put b.taken c.len.result b.nodes.items b.opened.items c.push.new.self.items same (rw ok at c.push.ensures.items) b.growing;
    }
