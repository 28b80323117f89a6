use Rattle.std.proofs.Common.{◌≡◌, take}
use Rattle.tree_rows.proofs.bodies.copy_labels.Given as goal

abbrev pub invariant-loop-label : goal.invariant-loop-label
invariant-loop-label l = l.copies.items ≡ take l.label-index l.labels
