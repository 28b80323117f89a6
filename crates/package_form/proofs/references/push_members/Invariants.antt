use Rattle.std.proofs.Common.{◌≡◌, ◌++◌, flat_map, take}
use Rattle.package_form.specs.References.{type_references}
use Rattle.package_form.proofs.references.push_members.Given as goal

abbrev pub invariant-loop-member : goal.invariant-loop-member
invariant-loop-member g l = l.ids.items ≡ l.initial.ids.items ++ flat_map (λ m. type_references (g.M.Member.type_of m)) (take l.member-index l.members)
