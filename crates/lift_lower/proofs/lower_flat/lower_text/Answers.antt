use Rattle.std.proofs.lemmas.Result.{err_from_is_err_and}
use Rattle.std.proofs.lemmas.Str.{is_utf8-from_IsUtf8}
use Rattle.lift_lower.proofs.LoweredFromParts.{text-lowered, text-lowering-ended}
use Rattle.lift_lower.proofs.lower_flat.lower_text.Goals as goal

pub returns-in_err-start-clause-fault : goal.returns-in_err-start-clause-fault
returns-in_err-start-clause-fault g c =
    let p = err_from_is_err_and c.from_residual.result c.from_residual.ensures.1 in
    rw (p.1, p.2) (text-lowering-ended c.args.limit g.G.Guest.allocates (g.G.Guest.memory c.args.guest.now) c.in_err-start.field-0.0 (g.G.Guest.memory c.put_text.new.guest) c.args.text.now (is_utf8-from_IsUtf8 _ c.utf8.text) c.in_err-start.ensures.fault)

pub returns-clause-ok : goal.returns-clause-ok
returns-clause-ok g c =
    text-lowered c.args.limit g.G.Guest.allocates c.args.flats.now.items c.push_header.new.flats.items c.args.text.now c.in_ok-start.start (g.G.Guest.memory c.args.guest.now) (g.G.Guest.memory c.put_text.new.guest)
    (is_utf8-from_IsUtf8 _ c.utf8.text) c.push_header.ensures c.in_ok-start.ensures.ok
