use Rattle.std.proofs.Common.{take}
use Rattle.package_sets.specs.Joining.{AreIdsThere}
use Rattle.package_sets.specs.Joined.{joined_places, renaming_of}
use Rattle.package_sets.proofs.attachment.are_ids_there.Given as goal

abbrev pub invariant-loop-place : goal.invariant-loop-place
invariant-loop-place l = AreIdsThere l.set (renaming_of (joined_places l.to)) (take l.place l.imports)
