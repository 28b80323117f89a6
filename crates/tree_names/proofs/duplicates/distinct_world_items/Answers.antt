use Rattle.std.proofs.Common.{◌++◌, ◌∷◌, [], map, take, refl, subst, arith}
use Rattle.std.proofs.lemmas.Result.{err_from_is_err_and}
use Rattle.wit_tokens.specs.declared.wit_syntax.ast.WorldItem.{WorldItem}
use Rattle.tree_scopes.specs.Sources.{item_in}
use Rattle.package_form.specs.Scope.{AreDistinct}
use Rattle.package_names.specs.Sides.{AreMetOnSides}
use Rattle.package_form.specs.Naming.{item_parameters}
use Rattle.package_form.proofs.AllAndContains.{all-none}
use Rattle.package_names.proofs.WorldItemNamesAreMet.{refuses-world, refuses-item-parameters, sides-more, parameters-more, whole-world}
use Rattle.tree_names.proofs.duplicates.distinct_world_items.Goals as goal

pub loop-item-init : goal.loop-item-init
loop-item-init c = record { met = c.new-sides.ensures; parts = all-none AreDistinct }

pub returns-in_err-meet_world_item-clause-err : goal.returns-in_err-meet_world_item-clause-err
returns-in_err-meet_world_item-clause-err c =
    let p = err_from_is_err_and c.from_residual.result c.from_residual.ensures.1 in
    rw (p.1, p.2) (refuses-world (item_in c.args.«package».now) c.args.items.now c.loop-item.item-index c.item-item.result (omega arith) c.item-item.is
    [] c.in_err-meet_world_item.field-0.0 (c.in_err-meet_world_item.ensures.err _ c.loop-item.invariant.met))

pub returns-in_err-distinct_item_parameters-clause-err : goal.returns-in_err-distinct_item_parameters-clause-err
returns-in_err-distinct_item_parameters-clause-err c =
    let p = err_from_is_err_and c.from_residual-in_err-distinct_item_parameters.result c.from_residual-in_err-distinct_item_parameters.ensures.1 in
    rw (p.1, p.2) (refuses-item-parameters (item_in c.args.«package».now) c.args.items.now c.loop-item.item-index c.item-item.result (omega arith) c.item-item.is
    [] c.in_err-distinct_item_parameters.field-0.0 (c.in_err-distinct_item_parameters.ensures.err c.args.«package».now))

pub loop-item-preserved : goal.loop-item-preserved
loop-item-preserved c =
    let g = item_in c.args.«package».now in
    let xs = c.args.items.now in
    let k = c.loop-item.item-index in
    let x = c.item-item.result in
    let s = c.meet_world_item.new.sides in
    record {
      met = sides-more g xs k x (omega arith) s (subst (λ (y : WorldItem). AreMetOnSides (map g (take k xs) ++ g y ∷ []) s) c.item-item.is (c.in_ok-meet_world_item.ensures.ok _ c.loop-item.invariant.met));
      parts = parameters-more g xs k x (omega arith) c.loop-item.invariant.parts
          (subst (λ (y : WorldItem). AreDistinct (item_parameters (g y))) c.item-item.is (c.in_ok-distinct_item_parameters.ensures.ok c.args.«package».now));
    }

pub returns-clause-ok : goal.returns-clause-ok
returns-clause-ok c =
    whole-world (item_in c.args.«package».now) c.args.items.now c.args.items.now c.loop-item.item-index [] c.loop-item.sides (omega arith) refl c.loop-item.invariant.met c.loop-item.invariant.parts
