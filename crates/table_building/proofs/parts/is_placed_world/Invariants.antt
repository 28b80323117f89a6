use Rattle.std.proofs.Common.{◌≡◌, true, take}
use Rattle.std.specs.List.{list_all}
use Rattle.tables.specs.Tables.{is_placed_item}
use Rattle.table_building.proofs.parts.is_placed_world.Given as goal

abbrev pub invariant-loop-item : goal.invariant-loop-item
invariant-loop-item l = list_all (λ i. is_placed_item l.definitions l.count l.place i.kind) (take l.item-index l.world.items) ≡ true
