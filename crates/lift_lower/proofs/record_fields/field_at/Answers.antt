use Rattle.tables.specs.Closed.{closed_type}
use Rattle.values.proofs.TypesExtents.{has-row}
use Rattle.lift_lower.proofs.PlacesOfFields.{field-found, field-place, field-inside}
use Rattle.lift_lower.proofs.record_fields.field_at.Goals as goal

pub field-requires : goal.field-requires
field-requires c = has-row c.args.table.now c.layouts.result.now c.args.ty c.layouts.ensures c.requires

pub returns-clause-found : goal.returns-clause-found
returns-clause-found c =
    let r = c.args.table.now in
    field-found r _ c.args.index (closed_type r c.args.ty) c.field.result (c.field.ensures.told r c.layouts.ensures)

pub returns-clause-place : goal.returns-clause-place
returns-clause-place c =
    let r = c.args.table.now in
    field-place r _ c.args.index (closed_type r c.args.ty) c.field.result (c.field.ensures.told r c.layouts.ensures)

pub returns-clause-inside : goal.returns-clause-inside
returns-clause-inside c =
    let r = c.args.table.now in
    field-inside r c.layouts.result.now c.args.index (closed_type r c.args.ty) c.field.result c.layouts.ensures (c.field.ensures.told r c.layouts.ensures)
