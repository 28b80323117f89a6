use Rattle.std.proofs.lemmas.Result.{err_from_is_err_and}
use Rattle.lift_lower.proofs.ScriptPartsInOrder.{asked, text-refused, text-put}
use Rattle.lift_lower.proofs.guest_blocks.put_text.Goals as goal

pub returns-in_err-start-clause-fault : goal.returns-in_err-start-clause-fault
returns-in_err-start-clause-fault g c =
    let p = err_from_is_err_and c.from_residual.result c.from_residual.ensures.1 in
    rw (p.1, p.2) (text-refused c.args.limit g.G.Guest.allocates c.args.text.now (g.G.Guest.memory c.args.guest.now) c.in_err-start.field-0.0 (g.G.Guest.memory c.ask_block.new.guest) (asked c.args.limit g.G.Guest.allocates 1 _ (g.G.Guest.memory c.args.guest.now) c.in_err-start.field-0.0 (g.G.Guest.memory c.ask_block.new.guest) c.in_err-start.ensures.fault))

pub returns-clause-ok : goal.returns-clause-ok
returns-clause-ok g c =
    text-put c.args.limit g.G.Guest.allocates c.args.text.now c.in_ok-start.start (g.G.Guest.memory c.args.guest.now) (g.G.Guest.memory c.ask_block.new.guest) (g.G.Guest.memory c.write_bytes.new.guest)
    c.in_ok-start.ensures.ok (rw c.as_bytes.ensures.value at c.write_bytes.ensures.led) c.write_bytes.ensures.same_length
