use Rattle.std.proofs.Common.{◌≡◌, ◌++◌, drop}
use Rattle.package_changes.specs.Judging.{item_places}
use Rattle.package_changes.proofs.places.push_items.Given as goal

abbrev pub invariant-loop-item : goal.invariant-loop-item
invariant-loop-item l = l.places.items ++ item_places l.place (drop l.item-index l.items) ≡ l.initial.places.items ++ item_places l.place l.items
