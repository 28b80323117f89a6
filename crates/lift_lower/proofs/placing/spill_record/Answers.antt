use Rattle.std.proofs.Common.{◌≡◌, [], ◌∷◌, ◌++◌, map, ap, ◌∙◌}
use Rattle.std.proofs.lemmas.Result.{err_from_is_err_and}
use Rattle.canonical_abi.specs.Types.{record_type, record_fields}
use Rattle.canonical_abi.specs.Layout.{align, size}
use Rattle.canonical_abi.specs.declared.flat.Flat.TheVariants.{I32}
use Rattle.canonical_abi.proofs.Layouts.AlignmentsAndSizes.{is-alignment}
use Rattle.tables.specs.Closed.{closed_type}
use Rattle.values.specs.Val.{value_of}
use Rattle.lift_lower.proofs.LoweredFromParts.{spilled-refused, spilled-ended, spilled-done}
use Rattle.lift_lower.proofs.ScriptPartsInOrder.{asked}
use Rattle.lift_lower.proofs.placing.spill_record.Goals as goal

pub ask_block-requires : goal.ask_block-requires
ask_block-requires g c = record { aligned = rw c.align_of-align.ensures.value (is-alignment (closed_type c.args.table.now c.args.ty)) }

pub returns-in_err-start-clause-fault : goal.returns-in_err-start-clause-fault
returns-in_err-start-clause-fault g c =
    let t = closed_type c.args.table.now c.args.ty in
    let ts = record_fields t in
    let old = g.G.Guest.memory c.args.guest.now in
    let new = g.G.Guest.memory c.ask_block.new.guest in
    let k = c.in_err-start.field-0.0 in
    let is_align : c.align_of-align.result ≡ align (record_type ts) = c.align_of-align.ensures.value ∙ ap align c.requires.record in
    let is_size : c.size_of-size.result ≡ size (record_type ts) = c.size_of-size.ensures.value ∙ ap size c.requires.record in
    let ended = rw (is_align, is_size) at c.in_err-start.ensures.fault in
    let p = err_from_is_err_and c.from_residual.result c.from_residual.ensures.1 in
    rw (p.1, p.2) (spilled-refused 16777216 g.G.Guest.allocates ts (map value_of c.args.values.now) old k new c.requires.typed (asked 16777216 g.G.Guest.allocates _ _ old k new ended))

pub returns-in_err-store_fields-clause-fault : goal.returns-in_err-store_fields-clause-fault
returns-in_err-store_fields-clause-fault g c =
    let t = closed_type c.args.table.now c.args.ty in
    let ts = record_fields t in
    let is_align : c.align_of-align.result ≡ align (record_type ts) = c.align_of-align.ensures.value ∙ ap align c.requires.record in
    let is_size : c.size_of-size.result ≡ size (record_type ts) = c.size_of-size.ensures.value ∙ ap size c.requires.record in
    let granted = rw (is_align, is_size) at c.in_ok-start.ensures.ok in
    let p = err_from_is_err_and c.from_residual-in_err-store_fields.result c.from_residual-in_err-store_fields.ensures.1 in
    rw (p.1, p.2) (spilled-ended 16777216 g.G.Guest.allocates ts (map value_of c.args.values.now) c.in_ok-start.start (g.G.Guest.memory c.args.guest.now) (g.G.Guest.memory c.ask_block.new.guest) granted c.in_err-store_fields.field-0.0 (g.G.Guest.memory c.store_fields.new.guest) c.in_err-store_fields.ensures.fault)

pub returns-clause-ok : goal.returns-clause-ok
returns-clause-ok g c =
    let t = closed_type c.args.table.now c.args.ty in
    let ts = record_fields t in
    let is_align : c.align_of-align.result ≡ align (record_type ts) = c.align_of-align.ensures.value ∙ ap align c.requires.record in
    let is_size : c.size_of-size.result ≡ size (record_type ts) = c.size_of-size.ensures.value ∙ ap size c.requires.record in
    let granted = rw (is_align, is_size) at c.in_ok-start.ensures.ok in
    let told = c.push.ensures.items ∙ ap (λ l. l ++ (I32 c.in_ok-start.start ∷ [])) c.requires.empty in
    spilled-done 16777216 g.G.Guest.allocates ts (map value_of c.args.values.now) c.in_ok-start.start (g.G.Guest.memory c.args.guest.now) (g.G.Guest.memory c.ask_block.new.guest) granted c.push.new.self.items (g.G.Guest.memory c.store_fields.new.guest) told c.in_ok-store_fields.ensures.ok
