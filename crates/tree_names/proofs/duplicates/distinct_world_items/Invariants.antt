use Rattle.std.proofs.Common.{map, take, All}
use Rattle.tree_scopes.specs.Sources.{item_in}
use Rattle.package_form.specs.Scope.{AreDistinct}
use Rattle.package_names.specs.Sides.{AreMetOnSides}
use Rattle.package_form.specs.Naming.{item_parameters}
use Rattle.tree_names.proofs.duplicates.distinct_world_items.Given as goal

abbrev pub invariant-loop-item : goal.invariant-loop-item
invariant-loop-item l =
    let meanings = map (item_in l.«package») (take l.item-index l.items) in
    record {
      met : AreMetOnSides meanings l.sides;
      parts : All AreDistinct (map item_parameters meanings);
    }
