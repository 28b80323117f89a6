use Rattle.layout.proofs.PartsTellClosedTypes.{IsEndOf, case-answer}
use Rattle.layout.proofs.StandsForOne.{own-case}
use Rattle.layout.proofs.layouts.Layouts.case_info.Goals as goal

pub returns-clause-told : goal.returns-clause-told
returns-clause-told c = λ r e.
    let end : IsEndOf c.args.self.now c.args.ty c.final_type.result = record { is = c.final_type.ensures.value; within = c.requires; below = c.final_type.ensures.below; end = c.final_type.ensures.end } in
    case-answer r c.args.self.now e c.args.ty c.final_type.result c.args.index _ end c.case_of.ensures

pub returns-clause-own : goal.returns-clause-own
returns-clause-own c = λ r e.
    let end : IsEndOf c.args.self.now c.args.ty c.final_type.result = record { is = c.final_type.ensures.value; within = c.requires; below = c.final_type.ensures.below; end = c.final_type.ensures.end } in
    own-case r c.args.self.now e c.args.ty c.final_type.result c.args.index _ end c.case_of.ensures
