use Rattle.std.proofs.Common.{map, take}
use Rattle.package_form.specs.Scope.{AreDistinct}
use Rattle.tree_names.proofs.members.distinct_few.Given as goal

abbrev pub invariant-loop-place : goal.invariant-loop-place
invariant-loop-place g l = AreDistinct (map g.N.HasName.name_of (take l.place l.members))
