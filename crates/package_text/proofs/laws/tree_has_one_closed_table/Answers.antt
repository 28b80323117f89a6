use Rattle.package_text.proofs.OneTablePerTree.HasOneClosedTable.{one-behind-imports}
use Rattle.package_text.proofs.laws.tree_has_one_closed_table.Goals as goal

pub returns : goal.returns
returns c = one-behind-imports
