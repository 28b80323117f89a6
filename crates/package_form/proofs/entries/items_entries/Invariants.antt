use Rattle.std.proofs.Common.{◌≡◌, ◌≤◌, map, sum, take}
use Rattle.package_form.specs.Entries.{entries_at}
use Rattle.package_form.proofs.entries.items_entries.Given as goal

abbrev pub invariant-loop-item : goal.invariant-loop-item
invariant-loop-item l = record {
  same : l.total ≡ sum (map entries_at (take l.item-index l.items));
  few : l.total ≤ l.item-index;
}
