use Rattle.canonical_abi.proofs.Layouts.AlignmentsAndSizes.{is-alignment}
use Rattle.tables.specs.Closed.{closed_type}
use Rattle.lift_lower.proofs.CallerSideOfTypedCalls.{area-asked, area-in, area-fails}
use Rattle.lift_lower.proofs.placing.ask_area.Goals as goal

pub ask_block-requires : goal.ask_block-requires
ask_block-requires g c = record { aligned = rw c.align_of-align.ensures.value (is-alignment (closed_type c.args.table.now c.in-Some.ty)) }

pub returns-in-Ok-clause-area : goal.returns-in-Ok-clause-area
returns-in-Ok-clause-area g c =
    let t = closed_type c.args.table.now c.in-Some.ty in
    let old = g.G.Guest.memory c.args.guest.now in
    let new = g.G.Guest.memory c.ask_block.new.guest in
    rw c.in-Some.is (area-in t c.align_of-align.result c.size_of-size.result c.align_of-align.ensures.value c.size_of-size.ensures.value g.G.Guest.allocates old new c.in-Ok.at c.in_default-count_within.ensures.spilled c.in-Ok.ensures.ok)

pub returns-in-Ok-clause-asked : goal.returns-in-Ok-clause-asked
returns-in-Ok-clause-asked g c =
    let t = closed_type c.args.table.now c.in-Some.ty in
    let old = g.G.Guest.memory c.args.guest.now in
    let new = g.G.Guest.memory c.ask_block.new.guest in
    rw c.in-Some.is (area-asked t c.align_of-align.result c.size_of-size.result c.align_of-align.ensures.value c.size_of-size.ensures.value g.G.Guest.allocates old new c.in-Ok.at c.in-Ok.ensures.ok)

pub returns-in-Err-clause-fault : goal.returns-in-Err-clause-fault
returns-in-Err-clause-fault g c =
    let t = closed_type c.args.table.now c.in-Some.ty in
    let old = g.G.Guest.memory c.args.guest.now in
    let new = g.G.Guest.memory c.ask_block.new.guest in
    rw c.in-Some.is (area-fails t c.align_of-align.result c.size_of-size.result c.align_of-align.ensures.value c.size_of-size.ensures.value g.G.Guest.allocates old new c.in-Err.kind c.place_fault.result c.place_fault.ensures c.in_default-count_within.ensures.spilled c.in-Err.ensures.fault)
