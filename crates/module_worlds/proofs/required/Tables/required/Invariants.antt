use Rattle.std.proofs.Common.{◌≡◌, map, flat_map, take}
use Rattle.module_worlds.specs.Fits.{exports_of_item, required_view}
use Rattle.module_worlds.proofs.required.Tables.required.Given as goal

abbrev pub invariant-loop-item : goal.invariant-loop-item
invariant-loop-item l = map required_view l.required.items ≡ flat_map (λ i. exports_of_item l.self.resolve.now i.direction i.kind) (take l.item-index l.items)
