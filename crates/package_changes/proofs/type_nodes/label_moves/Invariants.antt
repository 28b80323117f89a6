use Rattle.std.proofs.Common.{◌≡◌, length}
use Rattle.package_changes.specs.Forms.{label_moves}
use Rattle.package_changes.proofs.type_nodes.label_moves.Given as goal

abbrev pub invariant-loop-older : goal.invariant-loop-older
invariant-loop-older l = label_moves l.fn.newer l.older l.rest ≡ label_moves l.fn.newer l.fn.labels l.fn.newer

abbrev pub decreases-loop-older : goal.decreases-loop-older
decreases-loop-older l = length l.older
