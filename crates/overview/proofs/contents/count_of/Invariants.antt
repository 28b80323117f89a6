use Rattle.std.proofs.Common.{◌≡◌, ◌≤◌, take}
use Rattle.std.specs.List.{count_by}
use Rattle.overview.specs.Contents.{crosses}
use Rattle.overview.proofs.contents.count_of.Given as goal

abbrev pub invariant-loop-item : goal.invariant-loop-item
invariant-loop-item l = record {
  counted : l.count ≡ count_by (crosses l.direction) (take l.item-index l.items);
  below : l.count ≤ l.item-index;
}
