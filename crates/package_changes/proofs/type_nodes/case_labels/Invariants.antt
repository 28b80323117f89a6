use Rattle.std.proofs.Common.{◌≡◌, take, map}
use Rattle.package_changes.proofs.type_nodes.case_labels.Given as goal

abbrev pub invariant-loop-case : goal.invariant-loop-case
invariant-loop-case l = l.copies.items ≡ map (λ c. c.name) (take l.case-index l.cases)
