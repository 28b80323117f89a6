-- The answer crosses as it is, and no block is handed out.
use Rattle.std.proofs.Common.{◌≡◌, ◌<◌, ◌≤◌, true, map, length, refl, sym, arith, rules}
use Rattle.std.proofs.lemmas.List.{length-map}
use Rattle.memory.specs.Blocks.{can_lend}
use Rattle.memory.specs.Lent.{lent, LentAllocates}
use Rattle.tables.specs.Closed.{function_type}
use Rattle.adapter.proofs.PlainValuesCrossAsTheyAre.{plain-returned}
use Rattle.host_calls.specs.Calling.{area_block}
use Rattle.host_calls.specs.Values.{flat_of}
use Rattle.host_calls.proofs.ReturnAreaIsLive.{keeps-area, none-lent, lent-limited}
use Rattle.host_calls.proofs.half.Half.leave_plain.Goals as goal

pub returns-clause-done : goal.returns-clause-done
returns-clause-done c values kinds =
    let f = function_type c.args.self.now.types.now c.args.self.now.func in
    let flats = map flat_of values in
    let answer = map flat_of c.args.answer.now in
    let callee = c.args.callee.now in
    let blocks = c.args.self.now.blocks.now in
    let caller = lent 0 c.args.caller.now blocks in
    let short : length callee < 4294967296 = search rules in
    let small : length c.args.caller.now < 4294967296 = search rules in
    let can : can_lend (length c.args.caller.now) (area_block f flats) blocks ≡ true = none-lent (length c.args.caller.now) (area_block f flats) blocks c.requires.none small in
    let limited = lent-limited (length c.args.caller.now) (area_block f flats) blocks can in
    let counted = sym (length-map c.args.answer.now flat_of) in
    let few : length answer ≤ 1 = omega (arith, c.requires.few, counted) in
    let returned = plain-returned LentAllocates f flats answer callee caller (length answer) c.requires.own few refl limited in (
      ((c.requires.room, kinds, c.requires.fits), (short, can), keeps-area f flats c.args.caller.now blocks can),
      (answer, record { told = c.tell_values.ensures.told; counted = counted; rest = rw (length-map c.args.answer.now flat_of) c.tell_values.ensures.rest }, (0, (length answer, blocks, returned))),
    )
