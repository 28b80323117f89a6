use Rattle.values.proofs.TypesExtents.{has-row}
use Rattle.values.proofs.TypesShapes.{shape-told, few-flags}
use Rattle.values.proofs.types.Types.shape_of.Goals as goal

pub shape-requires : goal.shape-requires
shape-requires c = has-row c.args.self.now c.layouts.result.now c.args.ty c.layouts.ensures c.requires

pub returns-clause-shape : goal.returns-clause-shape
returns-clause-shape c =
    let r = c.args.self.now in
    shape-told r c.layouts.result.now c.args.ty c.shape.result c.layouts.ensures (c.shape.ensures.shape r c.layouts.ensures)

pub returns-clause-few : goal.returns-clause-few
returns-clause-few c =
    let r = c.args.self.now in
    few-flags r c.args.ty c.shape.result c.requires (shape-told r c.layouts.result.now c.args.ty c.shape.result c.layouts.ensures (c.shape.ensures.shape r c.layouts.ensures))

pub returns-clause-own : goal.returns-clause-own
returns-clause-own c = c.shape.ensures.own c.args.self.now c.layouts.ensures
