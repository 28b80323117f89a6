use Rattle.std.proofs.Common.{◌≡◌, take, map}
use Rattle.package_changes.proofs.type_nodes.parameter_labels.Given as goal

abbrev pub invariant-loop-parameter : goal.invariant-loop-parameter
invariant-loop-parameter l = l.copies.items ≡ map (λ p. p.name) (take l.parameter-index l.parameters)
