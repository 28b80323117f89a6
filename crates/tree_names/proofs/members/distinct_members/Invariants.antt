use Rattle.std.proofs.Common.{map, take}
use Rattle.package_form.specs.Distinct.{AreMet}
use Rattle.tree_names.proofs.members.distinct_members.Given as goal

abbrev pub invariant-loop-member : goal.invariant-loop-member
invariant-loop-member g l = AreMet (map g.N.HasName.name_of (take l.member-index l.members)) l.scope
