use Rattle.std.proofs.Common.{[], ◌∷◌, ◌++◌, map, ap, ◌∙◌}
use Rattle.std.proofs.lemmas.Result.{err_from_is_err_and}
use Rattle.canonical_abi.specs.Types.{record_type}
use Rattle.canonical_abi.specs.declared.flat.Flat.TheVariants.{I32}
use Rattle.canonical_abi.proofs.Layouts.AlignmentsAndSizes.{is-alignment}
use Rattle.values.specs.Members.{fields_of_types}
use Rattle.values.specs.Val.{value_of}
use Rattle.lift_lower.proofs.LoweredFromParts.{spilled-refused, spilled-ended, spilled-done}
use Rattle.lift_lower.proofs.ScriptPartsInOrder.{asked}
use Rattle.lift_lower.proofs.lowering.lower_spilled.Goals as goal

pub ask_block-requires : goal.ask_block-requires
ask_block-requires g c = record { aligned = rw c.record_extent-size.ensures.align (is-alignment (record_type (fields_of_types c.args.table.now c.args.types.now))) }

pub returns-in_err-start-clause-fault : goal.returns-in_err-start-clause-fault
returns-in_err-start-clause-fault g c =
    let ts = fields_of_types c.args.table.now c.args.types.now in
    let old = g.G.Guest.memory c.args.guest.now in
    let new = g.G.Guest.memory c.ask_block.new.guest in
    let k = c.in_err-start.field-0.0 in
    let ended = rw (c.record_extent-size.ensures.align, c.record_extent-size.ensures.size) at c.in_err-start.ensures.fault in
    let p = err_from_is_err_and c.from_residual.result c.from_residual.ensures.1 in
    rw (p.1, p.2) (spilled-refused c.args.limit g.G.Guest.allocates ts (map value_of c.args.values.now) old k new c.requires.typed (asked c.args.limit g.G.Guest.allocates _ _ old k new ended))

pub returns-in_err-store_fields-clause-fault : goal.returns-in_err-store_fields-clause-fault
returns-in_err-store_fields-clause-fault g c =
    let ts = fields_of_types c.args.table.now c.args.types.now in
    let granted = rw (c.record_extent-size.ensures.align, c.record_extent-size.ensures.size) at c.in_ok-start.ensures.ok in
    let p = err_from_is_err_and c.from_residual-in_err-store_fields.result c.from_residual-in_err-store_fields.ensures.1 in
    rw (p.1, p.2) (spilled-ended c.args.limit g.G.Guest.allocates ts (map value_of c.args.values.now) c.in_ok-start.start (g.G.Guest.memory c.args.guest.now) (g.G.Guest.memory c.ask_block.new.guest) granted c.in_err-store_fields.field-0.0 (g.G.Guest.memory c.store_fields.new.guest) c.in_err-store_fields.ensures.fault)

pub returns-clause-ok : goal.returns-clause-ok
returns-clause-ok g c =
    let ts = fields_of_types c.args.table.now c.args.types.now in
    let granted = rw (c.record_extent-size.ensures.align, c.record_extent-size.ensures.size) at c.in_ok-start.ensures.ok in
    let told = c.push.ensures.items ∙ ap (λ l. l ++ (I32 c.in_ok-start.start ∷ [])) c.new-flats.ensures in
    spilled-done c.args.limit g.G.Guest.allocates ts (map value_of c.args.values.now) c.in_ok-start.start (g.G.Guest.memory c.args.guest.now) (g.G.Guest.memory c.ask_block.new.guest) granted c.push.new.self.items (g.G.Guest.memory c.store_fields.new.guest) told c.in_ok-store_fields.ensures.ok
