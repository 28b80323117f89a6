use Rattle.std.proofs.Common.{map, take, All}
use Rattle.tables.specs.Package.{item_meaning, interface_names, trees}
use Rattle.package_form.specs.Scope.{AreDistinct}
use Rattle.package_names.specs.Sides.{AreMetOnSides}
use Rattle.package_form.specs.Naming.{item_parameters}
use Rattle.package_names.proofs.distinct.distinct_items.Given as goal

abbrev pub invariant-loop-item : goal.invariant-loop-item
invariant-loop-item l =
    let meanings = map (λ i. item_meaning (interface_names l.resolve) (trees l.resolve) l.resolve.definitions i.direction i.kind) (take l.item-index l.item-items) in
    record {
      met : AreMetOnSides meanings l.sides;
      parts : All AreDistinct (map item_parameters meanings);
    }
