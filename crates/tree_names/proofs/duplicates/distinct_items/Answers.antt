use Rattle.std.proofs.Common.{List, ℕ, All, map, flat_map, take, subst, sym, arith}
use Rattle.std.proofs.lemmas.Result.{err_from_is_err_and}
use Rattle.wit_tokens.specs.View.{entry_view}
use Rattle.wit_tokens.specs.declared.wit_syntax.ast.InterfaceItem.{InterfaceItem}
use Rattle.tree_meaning.specs.Declarations.{entry_names, entry_scopes, item_scopes}
use Rattle.package_form.specs.Scope.{AreDistinct}
use Rattle.package_form.specs.Distinct.{AreMet}
use Rattle.package_form.proofs.AllAndContains.{flat_map-more, all-append, all-cons, all-none}
use Rattle.package_form.proofs.NamesMetOneByOne.{met-none, refuses-item, all-taken}
use Rattle.tree_names.proofs.duplicates.distinct_items.Goals as goal

pub loop-item-init : goal.loop-item-init
loop-item-init c = record { names = met-none _ c.with_room-scope.ensures; parts = all-none AreDistinct }

pub returns-in_err-distinct_item-clause-err : goal.returns-in_err-distinct_item-clause-err
returns-in_err-distinct_item-clause-err c =
    let p = err_from_is_err_and c.from_residual.result c.from_residual.ensures.1 in
    rw (p.1, p.2) (refuses-item entry_names entry_scopes entry_view c.args.items.now c.loop-item.item-index c.item-item.result (omega arith) c.item-item.is
    c.loop-item.scope c.in_err-distinct_item.field-0.0 c.loop-item.invariant.names c.in_err-distinct_item.ensures.err)

pub loop-item-preserved : goal.loop-item-preserved
loop-item-preserved c =
    let k = c.loop-item.item-index in
    let xs = c.args.items.now in
    let x = c.item-item.result in
    record {
      names = subst (λ (ns : List (List ℕ)). AreMet ns c.distinct_item.new.scope) (sym (flat_map-more entry_names entry_view xs k x (omega arith) c.item-item.is))
          (c.in_ok-distinct_item.ensures.names _ c.loop-item.invariant.names);
      parts = subst (λ (ss : List (List (List ℕ))). All AreDistinct ss) (sym (flat_map-more entry_scopes entry_view xs k x (omega arith) c.item-item.is))
          (all-append AreDistinct (flat_map entry_scopes (map entry_view (take k xs))) (entry_scopes (entry_view x)) c.loop-item.invariant.parts c.in_ok-distinct_item.ensures.parts);
    }

pub returns-clause-ok : goal.returns-clause-ok
returns-clause-ok c =
    all-taken (λ (xs : List InterfaceItem). All AreDistinct (item_scopes (map entry_view xs))) c.args.items.now c.loop-item.item-index (omega arith)
    (all-cons AreDistinct _ _ c.loop-item.invariant.names.distinct c.loop-item.invariant.parts)
