use Rattle.std.proofs.Common.{List, ℕ, map, subst, sym, arith}
use Rattle.std.proofs.lemmas.Result.{err_from_is_err_and}
use Rattle.tables.specs.declared.tables.Case.{Case}
use Rattle.package_form.specs.Scope.{AreDistinct}
use Rattle.package_form.specs.Distinct.{AreMet}
use Rattle.package_form.proofs.AllAndContains.{map-more}
use Rattle.package_form.proofs.NamesMetOneByOne.{met-none, met-push, all-taken}
use Rattle.package_form.specs.Naming.{case_name}
use Rattle.package_names.proofs.NamesOfOneScope.{refuses-named}
use Rattle.package_names.proofs.distinct.distinct_cases.Goals as goal

pub loop-case-init : goal.loop-case-init
loop-case-init c = met-none _ c.with_room-scope.ensures

pub loop-case-preserved : goal.loop-case-preserved
loop-case-preserved c =
    subst (λ (ns : List (List ℕ)). AreMet ns c.meet.new.self) (sym (map-more case_name c.args.cases.now c.loop-case.case-index c.case-item.result (omega arith) c.case-item.is))
    (met-push _ c.case-item.result.name c.loop-case.scope _ c.loop-case.invariant c.in_ok-meet.ensures.new c.in_ok-meet.ensures.ok)

pub returns-in_err-meet-clause-err : goal.returns-in_err-meet-clause-err
returns-in_err-meet-clause-err c =
    let p = err_from_is_err_and c.from_residual.result c.from_residual.ensures.1 in
    rw (p.1, p.2) (refuses-named case_name c.args.cases.now c.loop-case.case-index c.case-item.result (omega arith) c.case-item.is c.loop-case.scope _ c.loop-case.invariant c.in_err-meet.ensures.err)

pub returns-clause-ok : goal.returns-clause-ok
returns-clause-ok c = all-taken (λ (xs : List Case). AreDistinct (map case_name xs)) c.args.cases.now c.loop-case.case-index (omega arith) c.loop-case.invariant.distinct
