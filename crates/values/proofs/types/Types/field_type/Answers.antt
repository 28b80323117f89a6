use Rattle.std.proofs.Common.{Some}
use Rattle.values.proofs.TypesExtents.{has-row}
use Rattle.values.proofs.TypesShapes.{inside-told}
use Rattle.values.proofs.types.Types.field_type.Goals as goal

pub field-requires : goal.field-requires
field-requires c = has-row c.args.self.now c.layouts.result.now c.args.ty c.layouts.ensures c.requires

pub returns-clause-inside : goal.returns-clause-inside
returns-clause-inside c =
    let r = c.args.self.now in
    inside-told r c.layouts.result.now (Some c.in_ok-field.field-0.ty) c.layouts.ensures (c.in_ok-field.ensures.told r c.layouts.ensures).2
