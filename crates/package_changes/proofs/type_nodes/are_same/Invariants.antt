use Rattle.std.proofs.Common.{◌≡◌, length}
use Rattle.package_changes.specs.Likeness.{are_same_labels}
use Rattle.package_changes.proofs.type_nodes.are_same.Given as goal

abbrev pub invariant-loop-older : goal.invariant-loop-older
invariant-loop-older l = are_same_labels l.older l.rest ≡ are_same_labels l.fn.labels l.fn.newer

abbrev pub decreases-loop-older : goal.decreases-loop-older
decreases-loop-older l = length l.older
