use Rattle.std.proofs.lemmas.Result.{err_from_is_err_and}
use Rattle.std.proofs.lemmas.Str.{is_utf8-from_IsUtf8}
use Rattle.lift_lower.proofs.StoredFromParts.{text-done, text-ended}
use Rattle.lift_lower.proofs.storing.store_text.Goals as goal

pub returns-in_err-start-clause-fault : goal.returns-in_err-start-clause-fault
returns-in_err-start-clause-fault g c =
    let p = err_from_is_err_and c.from_residual.result c.from_residual.ensures.1 in
    rw (p.1, p.2) (text-ended c.args.limit g.G.Guest.allocates c.args.text.now c.args.at (g.G.Guest.memory c.args.guest.now) c.in_err-start.field-0.0 (g.G.Guest.memory c.put_text.new.guest) (is_utf8-from_IsUtf8 _ c.utf8.text) c.in_err-start.ensures.fault)

pub returns-clause-ok : goal.returns-clause-ok
returns-clause-ok g c =
    text-done c.args.limit g.G.Guest.allocates c.args.text.now c.in_ok-start.start c.args.at (g.G.Guest.memory c.args.guest.now) (g.G.Guest.memory c.put_text.new.guest) (g.G.Guest.memory c.write_header.new.guest)
    (is_utf8-from_IsUtf8 _ c.utf8.text) c.in_ok-start.ensures.ok c.write_header.ensures.led c.write_header.ensures.same_length
