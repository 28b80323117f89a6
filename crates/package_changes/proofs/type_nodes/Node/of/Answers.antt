use Rattle.std.proofs.Common.{refl}
use Rattle.atoms.specs.Label.{is_label}
use Rattle.package_changes.proofs.type_nodes.Node.of.Goals as goal

pub two_labels-requires-clause-first : goal.two_labels-requires-clause-first
unfolding is_label
two_labels-requires-clause-first c = refl

pub two_labels-requires-clause-second : goal.two_labels-requires-clause-second
unfolding is_label
two_labels-requires-clause-second c = refl

pub two_labels-requires-in-Result-clause-first : goal.two_labels-requires-in-Result-clause-first
unfolding is_label
two_labels-requires-in-Result-clause-first c = refl

pub two_labels-requires-in-Result-clause-second : goal.two_labels-requires-in-Result-clause-second
unfolding is_label
two_labels-requires-in-Result-clause-second c = refl
