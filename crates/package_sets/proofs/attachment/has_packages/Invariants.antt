use Rattle.std.proofs.Common.{take}
use Rattle.package_sets.specs.Attached.{HasAll}
use Rattle.package_sets.proofs.attachment.has_packages.Given as goal

abbrev pub invariant-loop-package : goal.invariant-loop-package
invariant-loop-package l = HasAll l.set (take l.package-index l.packages)
