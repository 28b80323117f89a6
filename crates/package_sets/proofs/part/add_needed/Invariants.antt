use Rattle.package_sets.proofs.PackageTables.NeededPackages.{AddsNeededSoFar}
use Rattle.package_sets.proofs.part.add_needed.Given as goal

abbrev pub invariant-loop-place : goal.invariant-loop-place
invariant-loop-place l = AddsNeededSoFar l.set l.reached l.place l.initial.marks.items l.marks.items
