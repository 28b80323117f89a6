use Rattle.std.proofs.Common.{inr, arith}
use Rattle.lift_lower.proofs.ScriptPartsInOrder.{granted}
use Rattle.lift_lower.proofs.guest_blocks.ask_block.Goals as goal

pub returns-in_default-clause-fault : goal.returns-in_default-clause-fault
returns-in_default-clause-fault g c = inr (c.if-size-limit.false, c.in_default.ensures.step)

pub returns-clause-ok : goal.returns-clause-ok
returns-clause-ok g c =
    let stands = c.in_ok-test_block.ensures.ok in
    granted c.args.limit g.G.Guest.allocates c.args.align c.args.size c.in-Ok.start (g.G.Guest.memory c.args.guest.now) (g.G.Guest.memory c.alloc.new.self)
    c.if-size-limit.false c.in-Ok.ensures.step stands.0 (omega (arith, stands.1, c.len.ensures)) c.in-Ok.ensures.no_shorter
