use Rattle.std.proofs.Common.{◌≡◌, ◌⊎◌, ◌++◌, ◌∷◌, [], List, ℕ, All, Contains, map, flat_map, take, subst, sym, arith}
use Rattle.std.proofs.lemmas.Result.{err_from_is_err_and}
use Rattle.wit_tokens.specs.View.{item_view}
use Rattle.wit_tokens.specs.declared.wit_syntax.ast.Item.{Item}
use Rattle.tables.specs.declared.error.ResolveError.TheVariants as error
use Rattle.tree_meaning.specs.Scopes.{file_name, interface_scopes, scopes_in}
use Rattle.package_form.specs.Scope.{lowered, AreDistinct}
use Rattle.package_form.specs.Distinct.{AreMet}
use Rattle.package_form.proofs.AllAndContains.{map_map-more, flat_map-more, all-append, all-cons, all-none, contains-here, contains-later}
use Rattle.package_form.proofs.NamesMetOneByOne.{met-none, met-push, refuses-at, refuses-scope, refuses-among, part-contained, all-taken}
use Rattle.tree_names.proofs.duplicates.distinct_names.Goals as goal

pub loop-item-init : goal.loop-item-init
loop-item-init c = record { names = met-none _ c.with_room-scope.ensures; parts = all-none AreDistinct }

pub returns-in_err-meet-clause-err : goal.returns-in_err-meet-clause-err
returns-in_err-meet-clause-err c =
    let p = err_from_is_err_and c.from_residual.result c.from_residual.ensures.1 in
    let xs = c.args.items.now in
    let e = c.in_err-meet.field-0.0 in
    let told = subst (λ (n : List ℕ). (e ≡ error.NoMemory) ⊎ ((e ≡ error.Duplicate n) × Contains c.loop-item.scope (lowered n))) c.file_name.ensures c.in_err-meet.ensures.err in
    rw (p.1, p.2) (refuses-scope (map file_name (map item_view xs)) (scopes_in c.args.«package».now (map item_view xs)) e (contains-here _ _)
    (refuses-at file_name item_view xs c.loop-item.item-index c.item-item.result (omega arith) c.item-item.is c.loop-item.scope e c.loop-item.invariant.names told))

pub returns-in_err-distinct_inside-clause-err : goal.returns-in_err-distinct_inside-clause-err
returns-in_err-distinct_inside-clause-err c =
    let p = err_from_is_err_and c.from_residual-in_err-distinct_inside.result c.from_residual-in_err-distinct_inside.ensures.1 in
    let xs = c.args.items.now in
    let x = c.item-item.result in
    let e = c.in_err-distinct_inside.field-0.0 in
    let inside = interface_scopes c.args.«package».now in
    rw (p.1, p.2) (refuses-among (inside (item_view x)) (scopes_in c.args.«package».now (map item_view xs)) e
    (λ ns h. contains-later _ ns _ (part-contained inside item_view xs c.loop-item.item-index x (omega arith) c.item-item.is ns h)) c.in_err-distinct_inside.ensures.err)

pub loop-item-preserved : goal.loop-item-preserved
loop-item-preserved c =
    let k = c.loop-item.item-index in
    let xs = c.args.items.now in
    let x = c.item-item.result in
    let inside = interface_scopes c.args.«package».now in
    let s = c.loop-item.scope in
    let fresh = subst (λ (n : List ℕ). ¬ Contains s (lowered n)) c.file_name.ensures c.in_ok-meet.ensures.new in
    let more = subst (λ (n : List ℕ). c.meet.new.self ≡ s ++ lowered n ∷ []) c.file_name.ensures c.in_ok-meet.ensures.ok in
    record {
      names = subst (λ (ns : List (List ℕ)). AreMet ns c.meet.new.self) (sym (map_map-more file_name item_view xs k x (omega arith) c.item-item.is))
          (met-push _ (file_name (item_view x)) s c.meet.new.self c.loop-item.invariant.names fresh more);
      parts = subst (λ (ss : List (List (List ℕ))). All AreDistinct ss) (sym (flat_map-more inside item_view xs k x (omega arith) c.item-item.is))
          (all-append AreDistinct (flat_map inside (map item_view (take k xs))) (inside (item_view x)) c.loop-item.invariant.parts c.in_ok-distinct_inside.ensures.ok);
    }

pub returns-clause-ok : goal.returns-clause-ok
returns-clause-ok c =
    all-taken (λ (xs : List Item). All AreDistinct (scopes_in c.args.«package».now (map item_view xs))) c.args.items.now c.loop-item.item-index (omega arith)
    (all-cons AreDistinct _ _ c.loop-item.invariant.names.distinct c.loop-item.invariant.parts)
