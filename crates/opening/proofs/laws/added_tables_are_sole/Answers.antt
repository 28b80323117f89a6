use Rattle.opening.proofs.AddedTableIsSole.{component-is-in-order, file-is-sole, raw-is-sole, tree-is-in-order}
use Rattle.opening.proofs.laws.added_tables_are_sole.Goals as goal

pub returns-clause-text : goal.returns-clause-text
returns-clause-text c = file-is-sole

pub returns-clause-binary : goal.returns-clause-binary
returns-clause-binary c = raw-is-sole

pub returns-clause-of_text : goal.returns-clause-of_text
returns-clause-of_text c = tree-is-in-order

pub returns-clause-of_binary : goal.returns-clause-of_binary
returns-clause-of_binary c = component-is-in-order
