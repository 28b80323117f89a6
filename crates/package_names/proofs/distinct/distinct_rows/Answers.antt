use Rattle.std.proofs.Common.{List, ℕ, All, ◌∷◌, [], map, flat_map, subst, sym, arith}
use Rattle.std.proofs.lemmas.Result.{err_from_is_err_and}
use Rattle.package_form.specs.Scope.{AreDistinct}
use Rattle.package_form.specs.Distinct.{AreMet}
use Rattle.package_form.proofs.AllAndContains.{map-more, all-append, all-cons, all-none}
use Rattle.tables.specs.declared.tables.Definition.{Definition}
use Rattle.package_form.specs.Naming.{row_names, row_members}
use Rattle.package_form.proofs.NamesMetOneByOne.{all-taken}
use Rattle.package_names.proofs.NamesOfOneScope.{names-more, refuses-row-name, refuses-row-members}
use Rattle.package_names.proofs.distinct.distinct_rows.Goals as goal

pub returns-in_err-distinct_members-clause-err : goal.returns-in_err-distinct_members-clause-err
returns-in_err-distinct_members-clause-err c =
    let p = err_from_is_err_and c.from_residual.result c.from_residual.ensures.1 in
    rw (p.1, p.2) (refuses-row-members c.args.rows.now c.loop-row.row-index c.row-item.result (omega arith) c.row-item.is c.in_err-distinct_members.field-0.0 c.in_err-distinct_members.ensures.err)

pub returns-in_err-meet_row-clause-err : goal.returns-in_err-meet_row-clause-err
returns-in_err-meet_row-clause-err c =
    let p = err_from_is_err_and c.from_residual-in_err-meet_row.result c.from_residual-in_err-meet_row.ensures.1 in
    rw (p.1, p.2) (refuses-row-name c.args.rows.now c.loop-row.row-index c.row-item.result (omega arith) c.row-item.is c.in_err-meet_row.field-0.0
    (c.in_err-meet_row.ensures.err _ c.loop-row.invariant.names))

pub loop-row-preserved : goal.loop-row-preserved
loop-row-preserved c =
    let k = c.loop-row.row-index in
    let xs = c.args.rows.now in
    let x = c.row-item.result in
    record {
      names = subst (λ (ns : List (List ℕ)). AreMet ns c.meet_row.new.scope) (sym (names-more xs k x (omega arith) c.row-item.is)) (c.in_ok-meet_row.ensures.ok _ c.loop-row.invariant.names);
      parts = subst (λ (ss : List (List (List ℕ))). All AreDistinct ss) (sym (map-more row_members xs k x (omega arith) c.row-item.is))
          (all-append AreDistinct _ (row_members x ∷ []) c.loop-row.invariant.parts (all-cons AreDistinct (row_members x) [] c.in_ok-distinct_members.ensures.ok (all-none AreDistinct)));
    }

pub returns-clause-ok : goal.returns-clause-ok
returns-clause-ok c =
    let rows = c.args.rows.now in
    let k = c.loop-row.row-index in
    all-cons AreDistinct (flat_map row_names rows) (map row_members rows)
    (all-taken (λ (ds : List Definition). AreDistinct (flat_map row_names ds)) rows k (omega arith) c.loop-row.invariant.names.distinct)
    (all-taken (λ (ds : List Definition). All AreDistinct (map row_members ds)) rows k (omega arith) c.loop-row.invariant.parts)
