use Rattle.std.proofs.Common.{map, take, Contains}
use Rattle.package_form.specs.Scope.{lowered}
use Rattle.tree_names.proofs.members.is_among.Given as goal

abbrev pub invariant-loop-member : goal.invariant-loop-member
invariant-loop-member g l = ¬ Contains (map lowered (map g.N.HasName.name_of (take l.member-index l.members))) (lowered l.name)
