use Rattle.std.proofs.Common.{◌∙◌, ap}
use Rattle.package_form.specs.Naming.{name_if, row_names}
use Rattle.package_names.proofs.NamesOfOneScope.{on-met, if-refused}
use Rattle.package_names.proofs.distinct.meet_row.Goals as goal

pub returns-in-Some-clause-ok : goal.returns-in-Some-clause-ok
returns-in-Some-clause-ok c = on-met c.meet.result c.args.scope.now c.meet.new.self _ c.in-Some.name.name (ap row_names c.in-Type.is ∙ ap name_if c.in-Some.is) c.meet.ensures.new c.meet.ensures.ok

pub returns-in-Some-clause-err : goal.returns-in-Some-clause-err
returns-in-Some-clause-err c = if-refused c.meet.result c.args.scope.now _ c.in-Some.name.name (ap row_names c.in-Type.is ∙ ap name_if c.in-Some.is) c.meet.ensures.err

pub returns-in-Function-clause-ok : goal.returns-in-Function-clause-ok
returns-in-Function-clause-ok c =
    on-met c.meet-in-Function.result c.args.scope.now c.meet-in-Function.new.self _ c.in-Function.function.name (ap row_names c.in-Function.is) c.meet-in-Function.ensures.new c.meet-in-Function.ensures.ok

pub returns-in-Function-clause-err : goal.returns-in-Function-clause-err
returns-in-Function-clause-err c = if-refused c.meet-in-Function.result c.args.scope.now _ c.in-Function.function.name (ap row_names c.in-Function.is) c.meet-in-Function.ensures.err
