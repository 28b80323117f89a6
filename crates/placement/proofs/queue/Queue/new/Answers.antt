use Rattle.std.proofs.Common.{◌≡◌, length, replicate, false, [], arith}
use Rattle.placement.proofs.NodesAreSettled.{none_pending, one_more_pending, all_pending}
use Rattle.placement.proofs.queue.Queue.new.Goals as goal

pub loop-node-init : goal.loop-node-init
loop-node-init c = rw (c.new-nodes.ensures.items, c.new-waiting.ensures.items) none_pending

pub loop-node-preserved : goal.loop-node-preserved
loop-node-preserved c =
    let pushed = one_more_pending c.loop-node.node c.loop-node.nodes.items c.loop-node.waiting.items c.loop-node.invariant in
    rw (c.in_ok-push.ensures.items, c.in_ok-push-2.ensures.items, c.new-in-loop-node.ensures, c.new.ensures.items) pushed

pub settle_all-requires : goal.settle_all-requires
settle_all-requires c =
    let all : c.loop-node.node ≡ length c.args.uses.now = omega (arith, c.loop-node-test.false, c.loop-node.auto.node-end) in
    let empty : c.new-2.result.keys ≡ [] = c.new-2.ensures.empty in
    let placed : c.in_ok-vec.field-0.items ≡ replicate (length c.args.uses.now) false = c.in_ok-vec.ensures.items_if_clones_equal (λ y e. e) in
    let met : c.in_ok-vec-2.field-0.items ≡ replicate (length c.args.uses.now) 0 = c.in_ok-vec-2.ensures.items_if_clones_equal (λ y e. e) in
    rw (c.deref.ensures.value, placed, met, empty)
    (all_pending c.args.uses.now c.loop-node.nodes.items c.loop-node.waiting.items c.requires (rw all at c.loop-node.invariant))
