use Rattle.layout.proofs.PartsTellClosedTypes.{IsEndOf, shape-answer}
use Rattle.layout.proofs.StandsForOne.{own-shape}
use Rattle.layout.proofs.layouts.Layouts.shape.Goals as goal

pub returns-clause-shape : goal.returns-clause-shape
returns-clause-shape c = λ r e.
    let end : IsEndOf c.args.self.now c.args.ty c.final_type.result = record { is = c.final_type.ensures.value; within = c.requires; below = c.final_type.ensures.below; end = c.final_type.ensures.end } in
    shape-answer r c.args.self.now e c.args.ty c.final_type.result _ end c.shape_of.ensures

pub returns-clause-own : goal.returns-clause-own
returns-clause-own c = λ r e.
    let end : IsEndOf c.args.self.now c.args.ty c.final_type.result = record { is = c.final_type.ensures.value; within = c.requires; below = c.final_type.ensures.below; end = c.final_type.ensures.end } in
    own-shape r c.args.self.now e c.args.ty c.final_type.result _ end c.shape_of.ensures
