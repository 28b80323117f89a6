use Rattle.std.proofs.Common.{List, ℕ, map, subst, sym, arith}
use Rattle.std.proofs.lemmas.Result.{err_from_is_err_and}
use Rattle.tables.specs.declared.tables.Field.{Field}
use Rattle.package_form.specs.Scope.{AreDistinct}
use Rattle.package_form.specs.Distinct.{AreMet}
use Rattle.package_form.proofs.AllAndContains.{map-more}
use Rattle.package_form.proofs.NamesMetOneByOne.{met-none, met-push, all-taken}
use Rattle.package_form.specs.Naming.{field_name}
use Rattle.package_names.proofs.NamesOfOneScope.{refuses-named}
use Rattle.package_names.proofs.distinct.distinct_fields.Goals as goal

pub loop-field-init : goal.loop-field-init
loop-field-init c = met-none _ c.with_room-scope.ensures

pub loop-field-preserved : goal.loop-field-preserved
loop-field-preserved c =
    subst (λ (ns : List (List ℕ)). AreMet ns c.meet.new.self) (sym (map-more field_name c.args.fields.now c.loop-field.field-index c.field-item.result (omega arith) c.field-item.is))
    (met-push _ c.field-item.result.name c.loop-field.scope _ c.loop-field.invariant c.in_ok-meet.ensures.new c.in_ok-meet.ensures.ok)

pub returns-in_err-meet-clause-err : goal.returns-in_err-meet-clause-err
returns-in_err-meet-clause-err c =
    let p = err_from_is_err_and c.from_residual.result c.from_residual.ensures.1 in
    rw (p.1, p.2) (refuses-named field_name c.args.fields.now c.loop-field.field-index c.field-item.result (omega arith) c.field-item.is c.loop-field.scope _ c.loop-field.invariant c.in_err-meet.ensures.err)

pub returns-clause-ok : goal.returns-clause-ok
returns-clause-ok c = all-taken (λ (xs : List Field). AreDistinct (map field_name xs)) c.args.fields.now c.loop-field.field-index (omega arith) c.loop-field.invariant.distinct
