use Rattle.std.proofs.Common.{[]}
use Rattle.std.proofs.lemmas.Result.{err_from_is_err_and}
use Rattle.tables.specs.Package.{item_meaning, interface_names, trees}
use Rattle.tables.specs.declared.tables.WorldItem.{WorldItem}
use Rattle.package_form.specs.Scope.{AreDistinct}
use Rattle.package_form.proofs.AllAndContains.{all-none}
use Rattle.package_names.proofs.WorldItemNamesAreMet.{refused-name-at, refused-parameters-at, sides-more, parameters-more, whole-world}
use Rattle.package_names.proofs.distinct.distinct_items.Goals as goal

pub loop-item-init : goal.loop-item-init
loop-item-init c = record { met = c.new-sides.ensures; parts = all-none AreDistinct }

pub returns-in_err-distinct_item-clause-err : goal.returns-in_err-distinct_item-clause-err
returns-in_err-distinct_item-clause-err c =
    let r = c.args.resolve.now in
    let p = err_from_is_err_and c.from_residual.result c.from_residual.ensures.1 in
    rw (p.1, p.2) (refused-parameters-at (λ (i : WorldItem). item_meaning (interface_names r) (trees r) r.definitions i.direction i.kind) c.as_slice-item-items.result.now c.loop-item.item-index _ c.loop-item-test.true
    c.args.world.now.items [] c.in_err-distinct_item.field-0.0 c.as_slice-item-items.ensures c.in_err-distinct_item.ensures.err)

pub returns-in_err-meet_item-clause-err : goal.returns-in_err-meet_item-clause-err
returns-in_err-meet_item-clause-err c =
    let r = c.args.resolve.now in
    let p = err_from_is_err_and c.from_residual-in_err-meet_item.result c.from_residual-in_err-meet_item.ensures.1 in
    rw (p.1, p.2) (refused-name-at (λ (i : WorldItem). item_meaning (interface_names r) (trees r) r.definitions i.direction i.kind) c.as_slice-item-items.result.now c.loop-item.item-index _ c.loop-item-test.true
    c.args.world.now.items [] c.in_err-meet_item.field-0.0 c.as_slice-item-items.ensures (c.in_err-meet_item.ensures.err _ c.loop-item.invariant.met))

pub loop-item-preserved : goal.loop-item-preserved
loop-item-preserved c =
    let r = c.args.resolve.now in
    record {
      met = sides-more (λ (i : WorldItem). item_meaning (interface_names r) (trees r) r.definitions i.direction i.kind) c.as_slice-item-items.result.now c.loop-item.item-index _ c.loop-item-test.true
          c.meet_item.new.sides (c.in_ok-meet_item.ensures.ok _ c.loop-item.invariant.met);
      parts = parameters-more (λ (i : WorldItem). item_meaning (interface_names r) (trees r) r.definitions i.direction i.kind) c.as_slice-item-items.result.now c.loop-item.item-index _ c.loop-item-test.true
          c.loop-item.invariant.parts c.in_ok-distinct_item.ensures.ok;
    }

pub returns-clause-ok : goal.returns-clause-ok
returns-clause-ok c =
    let r = c.args.resolve.now in
    whole-world (λ (i : WorldItem). item_meaning (interface_names r) (trees r) r.definitions i.direction i.kind) c.as_slice-item-items.result.now c.args.world.now.items c.loop-item.item-index [] c.loop-item.sides
    c.loop-item-test.false c.as_slice-item-items.ensures c.loop-item.invariant.met c.loop-item.invariant.parts
