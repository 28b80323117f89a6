use Rattle.std.proofs.Common.{List, ℕ, subst, sym, arith}
use Rattle.std.proofs.lemmas.Result.{err_from_is_err_and}
use Rattle.package_form.specs.Scope.{AreDistinct}
use Rattle.package_form.specs.Distinct.{AreMet, RefusesNames}
use Rattle.package_form.proofs.NamesMetOneByOne.{met-none, met-push, refuses-end, refuses-more, split-at, take-more, all-taken}
use Rattle.package_names.proofs.distinct.distinct_labels.Goals as goal

pub loop-label-init : goal.loop-label-init
loop-label-init c = met-none _ c.with_room-scope.ensures

pub loop-label-preserved : goal.loop-label-preserved
loop-label-preserved c =
    subst (λ (ns : List (List ℕ)). AreMet ns c.meet.new.self) (sym (take-more c.args.labels.now c.loop-label.label-index c.label-item.result (omega arith) c.label-item.is))
    (met-push _ c.label-item.result c.loop-label.scope _ c.loop-label.invariant c.in_ok-meet.ensures.new c.in_ok-meet.ensures.ok)

pub returns-in_err-meet-clause-err : goal.returns-in_err-meet-clause-err
returns-in_err-meet-clause-err c =
    let p = err_from_is_err_and c.from_residual.result c.from_residual.ensures.1 in
    let r = split-at c.args.labels.now c.loop-label.label-index c.label-item.result (omega arith) c.label-item.is in
    rw (p.1, p.2) (subst (λ (ns : List (List ℕ)). RefusesNames ns c.in_err-meet.field-0.0) (sym r.1) (refuses-more _ r.0 c.in_err-meet.field-0.0 (refuses-end _ c.label-item.result c.loop-label.scope c.in_err-meet.field-0.0 c.loop-label.invariant c.in_err-meet.ensures.err)))

pub returns-clause-ok : goal.returns-clause-ok
returns-clause-ok c = all-taken AreDistinct c.args.labels.now c.loop-label.label-index (omega arith) c.loop-label.invariant.distinct
