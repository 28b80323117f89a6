use Rattle.std.proofs.Common.{◌≡◌, length}
use Rattle.package_changes.specs.Forms.{label_goes}
use Rattle.package_changes.proofs.type_nodes.label_goes.Given as goal

abbrev pub invariant-loop-older : goal.invariant-loop-older
invariant-loop-older l = label_goes l.older l.rest ≡ label_goes l.fn.labels l.fn.newer

abbrev pub decreases-loop-older : goal.decreases-loop-older
decreases-loop-older l = length l.older
