use Rattle.std.proofs.Common.{map}
use Rattle.std.proofs.lemmas.List.{length-map}
use Rattle.std.proofs.lemmas.Result.{err_from_is_err_and}
use Rattle.tables.specs.Closed.{closed_type}
use Rattle.values.specs.Val.{value_of}
use Rattle.lift_lower.proofs.LoweredFromParts.{list-lowered, list-lowering-refused, list-lowering-ended}
use Rattle.lift_lower.proofs.lower_flat.lower_list.Goals as goal

pub returns-in_err-start-clause-fault : goal.returns-in_err-start-clause-fault
returns-in_err-start-clause-fault g c =
    let u = closed_type c.args.table.now c.args.element in
    let vs = map value_of c.args.items.now in
    let ended = rw (← length-map c.args.items.now value_of) at c.in_err-start.ensures.fault in
    let p = err_from_is_err_and c.from_residual.result c.from_residual.ensures.1 in
    rw (p.1, p.2) (list-lowering-refused c.args.limit g.G.Guest.allocates (g.G.Guest.memory c.args.guest.now) c.in_err-start.field-0.0 (g.G.Guest.memory c.ask_elements.new.guest) u vs c.requires.typed ended)

pub returns-in_err-store_items-clause-fault : goal.returns-in_err-store_items-clause-fault
returns-in_err-store_items-clause-fault g c =
    let u = closed_type c.args.table.now c.args.element in
    let vs = map value_of c.args.items.now in
    let granted = rw (← length-map c.args.items.now value_of) at c.in_ok-start.ensures.ok in
    let p = err_from_is_err_and c.from_residual-in_err-store_items.result c.from_residual-in_err-store_items.ensures.1 in
    rw (p.1, p.2) (list-lowering-ended c.args.limit g.G.Guest.allocates (g.G.Guest.memory c.args.guest.now) c.in_err-store_items.field-0.0 (g.G.Guest.memory c.store_items.new.guest) u vs c.in_ok-start.start (g.G.Guest.memory c.ask_elements.new.guest) granted c.in_err-store_items.ensures.fault)

pub returns-clause-ok : goal.returns-clause-ok
returns-clause-ok g c =
    let u = closed_type c.args.table.now c.args.element in
    let vs = map value_of c.args.items.now in
    let granted = rw (← length-map c.args.items.now value_of) at c.in_ok-start.ensures.ok in
    let told = rw (← length-map c.args.items.now value_of) at c.push_header.ensures in
    list-lowered c.args.limit g.G.Guest.allocates c.args.flats.now.items c.push_header.new.flats.items u vs c.in_ok-start.start (g.G.Guest.memory c.args.guest.now) (g.G.Guest.memory c.ask_elements.new.guest) (g.G.Guest.memory c.store_items.new.guest)
    told granted c.in_ok-store_items.ensures.ok
