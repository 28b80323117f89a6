use Rattle.std.proofs.Common.{◌≡◌, false, not, get_or, sym, ◌∙◌, arith}
use Rattle.placement.proofs.PlacedSoFar.{placed_more, placed_all, cycle_of}
use Rattle.placement.proofs.StraightOrder.{straight}
use Rattle.placement.proofs.order.placement.Goals as goal

pub returns-in_default-clause-cycle : goal.returns-in_default-clause-cycle
returns-in_default-clause-cycle c = λ e.
    let stuck = rw (c.loop-left.invariant.uses) at c.in_default.ensures.none in (
      (λ i. not (get_or c.loop-left.queue.placed i false)),
      cycle_of c.args.uses.now c.loop-left.queue.placed c.loop-left.order.items c.loop-left.left c.loop-left.invariant.so_far (omega arith) c.requires stuck,
    )

pub loop-left-preserved : goal.loop-left-preserved
loop-left-preserved c =
    let placed = c.in-Some.ensures.some in
    let next = rw (c.loop-left.invariant.uses) at placed.next in
    let more = placed_more c.args.uses.now c.loop-left.queue.placed c.loop-left.order.items c.loop-left.left c.in-Some.node c.loop-left.invariant.so_far next in
    record {
      so_far = rw (c.in_ok-push.ensures.items, c.in_ok-settle_all.ensures.kept.placed, placed.placed) more;
      settled = c.in_ok-settle_all.ensures.ok;
      uses = c.in_ok-settle_all.ensures.kept.uses ∙ placed.uses ∙ c.loop-left.invariant.uses;
    }

pub returns-clause-ok : goal.returns-clause-ok
returns-clause-ok c =
    let none : c.loop-left.left ≡ 0 = omega (arith, c.loop-left-test.false) in
    rw (c.new-3.ensures) (placed_all c.args.uses.now c.loop-left.queue.placed c.loop-left.order.items c.loop-left.left c.loop-left.invariant.so_far none)

pub returns-then-looks_back-clause-ok : goal.returns-then-looks_back-clause-ok
returns-then-looks_back-clause-ok c = rw (c.new.ensures, c.in_ok-numbers.ensures) (straight c.args.uses.now (sym c.if-looks_back.true ∙ c.looks_back.ensures))
