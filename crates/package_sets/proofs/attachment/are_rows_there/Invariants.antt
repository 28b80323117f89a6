use Rattle.std.proofs.Common.{take}
use Rattle.package_sets.specs.Joining.{AreRowsThere}
use Rattle.package_sets.specs.Joined.{joined_places, renaming_of}
use Rattle.package_sets.proofs.attachment.are_rows_there.Given as goal

abbrev pub invariant-loop-place : goal.invariant-loop-place
invariant-loop-place l = AreRowsThere l.set (renaming_of (joined_places l.to)) (take l.place l.rows)
