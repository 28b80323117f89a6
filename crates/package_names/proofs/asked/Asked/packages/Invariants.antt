use Rattle.std.proofs.Common.{◌≡◌, map, take}
use Rattle.package_names.specs.Asked.{has_names}
use Rattle.package_names.proofs.asked.Asked.packages.Given as goal

abbrev pub invariant-loop-list : goal.invariant-loop-list
invariant-loop-list l = l.marks.items ≡ map has_names (take l.list-index l.list-items)
