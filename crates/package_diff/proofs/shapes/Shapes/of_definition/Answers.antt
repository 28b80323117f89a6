use Rattle.std.proofs.Common.{sym}
use Rattle.package_diff.proofs.NumbersStandForTypes.{number-kept, row-types-kept}
use Rattle.package_diff.proofs.shapes.Shapes.of_definition.Goals as goal

pub returns-in_ok-result-in-Function-clause-number : goal.returns-in_ok-result-in-Function-clause-number
returns-in_ok-result-in-Function-clause-number c =
    rw (c.in-Function.is, sym c.as_slice.ensures) (number-kept c.of_parameters.new.self.known.keys c.of_payload.new.self.known.keys _ c.in_ok-number-in-Function.number c.in_ok-result-in-Function.ensures.extends c.in_ok-number-in-Function.ensures.number)

pub returns-in_ok-result-in-Function-clause-answer : goal.returns-in_ok-result-in-Function-clause-answer
returns-in_ok-result-in-Function-clause-answer c =
    let same = row-types-kept c.args.self.now.known.keys c.of_parameters.new.self.known.keys c.args.rows.now c.in_ok-number-in-Function.ensures.extends c.requires in
    rw c.in-Function.is (rw same at c.in_ok-result-in-Function.ensures.part)
