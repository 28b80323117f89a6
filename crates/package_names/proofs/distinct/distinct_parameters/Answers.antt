use Rattle.std.proofs.Common.{List, ℕ, map, subst, sym, arith}
use Rattle.std.proofs.lemmas.Result.{err_from_is_err_and}
use Rattle.tables.specs.declared.tables.Parameter.{Parameter}
use Rattle.package_form.specs.Scope.{AreDistinct}
use Rattle.package_form.specs.Distinct.{AreMet}
use Rattle.package_form.proofs.AllAndContains.{map-more}
use Rattle.package_form.proofs.NamesMetOneByOne.{met-none, met-push, all-taken}
use Rattle.package_form.specs.Naming.{parameter_name}
use Rattle.package_names.proofs.NamesOfOneScope.{refuses-named}
use Rattle.package_names.proofs.distinct.distinct_parameters.Goals as goal

pub loop-param-init : goal.loop-param-init
loop-param-init c = met-none _ c.with_room-scope.ensures

pub loop-param-preserved : goal.loop-param-preserved
loop-param-preserved c =
    subst (λ (ns : List (List ℕ)). AreMet ns c.meet.new.self) (sym (map-more parameter_name c.args.params.now c.loop-param.param-index c.param-item.result (omega arith) c.param-item.is))
    (met-push _ c.param-item.result.name c.loop-param.scope _ c.loop-param.invariant c.in_ok-meet.ensures.new c.in_ok-meet.ensures.ok)

pub returns-in_err-meet-clause-err : goal.returns-in_err-meet-clause-err
returns-in_err-meet-clause-err c =
    let p = err_from_is_err_and c.from_residual.result c.from_residual.ensures.1 in
    rw (p.1, p.2) (refuses-named parameter_name c.args.params.now c.loop-param.param-index c.param-item.result (omega arith) c.param-item.is c.loop-param.scope _ c.loop-param.invariant c.in_err-meet.ensures.err)

pub returns-clause-ok : goal.returns-clause-ok
returns-clause-ok c = all-taken (λ (xs : List Parameter). AreDistinct (map parameter_name xs)) c.args.params.now c.loop-param.param-index (omega arith) c.loop-param.invariant.distinct
