use Rattle.std.proofs.Common.{take, All}
use Rattle.atoms.specs.Label.{IsLabel}
use Rattle.tree_scopes.specs.Lent.{lent_names}
use Rattle.tree_scopes.proofs.names.are_labels.Given as goal

abbrev pub invariant-loop-name : goal.invariant-loop-name
invariant-loop-name l = All IsLabel (lent_names (take l.name-index l.names))
