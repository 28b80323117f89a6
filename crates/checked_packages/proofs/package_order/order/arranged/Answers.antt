use Rattle.std.proofs.Common.{◌∷◌, [], arith}
use Rattle.std.proofs.lemmas.List.{length-append}
use Rattle.placement.proofs.PlacedSoFar.{placed_more, cycle_of}
use Rattle.checked_packages.proofs.package_order.order.arranged.Goals as goal

pub ring_of-requires-clause-cycle : goal.ring_of-requires-clause-cycle
ring_of-requires-clause-cycle c =
    let stuck = rw c.deref.ensures.value at c.in_default.ensures.none in
    rw c.deref-in_default.ensures.value (cycle_of c.args.uses.now c.loop-left.placed.items c.loop-left.order.items c.loop-left.left c.loop-left.invariant.so_far (omega arith) c.requires stuck)

pub loop-left-preserved : goal.loop-left-preserved
loop-left-preserved c =
    let next = rw c.deref.ensures.value at c.in-Some.ensures.some in
    let more = placed_more c.args.uses.now c.loop-left.placed.items c.loop-left.order.items c.loop-left.left c.in-Some.place c.loop-left.invariant.so_far next in
    record {
      so_far = rw c.in_ok-push.ensures.items more;
      count = rw c.in_ok-push.ensures.items (omega (arith, length-append c.loop-left.order.items (c.in-Some.place ∷ []), c.loop-left.invariant.count, c.loop-left-test.true));
    }
