-- The arguments cross as they are, and no block is handed out.
use Rattle.std.proofs.Common.{◌≡◌, ◌<◌, true, map, length, refl, sym, arith, rules}
use Rattle.std.proofs.lemmas.List.{length-map}
use Rattle.memory.specs.Blocks.{can_lend}
use Rattle.memory.specs.Lent.{lent, LentAllocates}
use Rattle.tables.specs.Closed.{function_type}
use Rattle.adapter.proofs.PlainValuesCrossAsTheyAre.{plain-entered}
use Rattle.host_calls.specs.Calling.{no_block}
use Rattle.host_calls.specs.Values.{flat_of}
use Rattle.host_calls.proofs.ReturnAreaIsLive.{none-lent, lent-limited}
use Rattle.host_calls.proofs.half.Half.enter_plain.Goals as goal

pub tell_values-requires : goal.tell_values-requires
tell_values-requires c = omega (arith, c.requires.plain.1, c.requires.room, length-map c.args.flats.now flat_of)

pub returns-clause-done : goal.returns-clause-done
returns-clause-done c =
    let f = function_type c.args.self.now.types.now c.args.self.now.func in
    let flats = map flat_of c.args.flats.now in
    let caller = c.args.caller.now in
    let blocks = c.args.self.now.blocks.now in
    let callee = lent 0 c.args.callee.now blocks in
    let short : length caller < 4294967296 = search rules in
    let small : length c.args.callee.now < 4294967296 = search rules in
    let can : can_lend (length c.args.callee.now) no_block blocks ≡ true = none-lent (length c.args.callee.now) no_block blocks c.requires.none small in
    let limited = lent-limited (length c.args.callee.now) no_block blocks can in
    let counted = sym (length-map c.args.flats.now flat_of) in
    let entered = plain-entered LentAllocates f flats caller callee (length flats) c.requires.plain refl limited in (
      ((c.requires.room, c.requires.kinds), (short, can)),
      (flats, record { told = c.tell_values.ensures.told; counted = counted; rest = rw (length-map c.args.flats.now flat_of) c.tell_values.ensures.rest }, (0, (length flats, blocks, entered))),
    )
