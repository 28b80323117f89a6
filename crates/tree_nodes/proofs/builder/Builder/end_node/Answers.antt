use Rattle.std.proofs.Common.{◌≡◌, true, is_ok, sym, ◌∙◌}
use Rattle.tree_nodes.proofs.ForestsGrow.{left_out_if, closed_off}
use Rattle.tree_nodes.proofs.builder.Builder.end_node.Goals as goal

pub invariant_of-self : goal.invariant_of-self
invariant_of-self c =
    let b = c.args.self.now in
    record {
      within = b.within;
      growing = left_out_if b.taken b.nodes.items b.opened.items c.pop.new.self.items c.pop.result c.pop.ensures.items b.growing;
    }

pub invariant_of-self-else-is_err : goal.invariant_of-self-else-is_err
invariant_of-self-else-is_err c =
    let b = c.args.self.now in
    let ok : is_ok c.push.result ≡ true = c.if-is_err.ensures.negation in
    let o = c.in-Some.node in
    let n = c.in-Some-closed.closed in
    record {
      within = b.within;
      growing = closed_off c.args.kind b.taken b.nodes.items c.push.new.self.items b.opened.items c.pop.new.self.items o n c.in-Some.ensures.items (sym c.closed.ensures ∙ c.in-Some-closed.is) (rw ok at c.push.ensures.items) b.growing;
    }
