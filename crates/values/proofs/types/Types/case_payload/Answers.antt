use Rattle.values.proofs.TypesExtents.{has-row}
use Rattle.values.proofs.TypesShapes.{inside-told}
use Rattle.values.proofs.types.Types.case_payload.Goals as goal

pub case_info-requires : goal.case_info-requires
case_info-requires c = has-row c.args.self.now c.layouts.result.now c.args.ty c.layouts.ensures c.requires

pub returns-clause-inside : goal.returns-clause-inside
returns-clause-inside c =
    let r = c.args.self.now in
    inside-told r c.layouts.result.now c.in_ok-case_info.field-0.payload c.layouts.ensures (c.in_ok-case_info.ensures.told r c.layouts.ensures).2
