-- What the list leads to is a free block with room, behind a link that is a note or in a free block.
use Rattle.std.proofs.Common.{◌/◌, length, refl, inl}
use Rattle.canonical_abi.specs.Guest.{Memory}
use Rattle.memory.specs.Headers.{headers}
use Rattle.memory.specs.HeadersLaws.{led}
use Rattle.memory.proofs.headers.HeadersGuest.alloc.Goals as goal

pub take_listed-requires-clause-link : goal.take_listed-requires-clause-link
take_listed-requires-clause-link c =
    let s = c.args.self.now in
    let m : Memory = headers s.pages.bytes.items s.units.live.items s.pages.max in
    (led m c.whole_units-wanted.result (length s.pages.bytes.items / 8) 8 c.in-Some.link c.in-Some.ensures (inl refl)).0

pub take_listed-requires-clause-room : goal.take_listed-requires-clause-room
take_listed-requires-clause-room c =
    let s = c.args.self.now in
    let m : Memory = headers s.pages.bytes.items s.units.live.items s.pages.max in
    (led m c.whole_units-wanted.result (length s.pages.bytes.items / 8) 8 c.in-Some.link c.in-Some.ensures (inl refl)).1
