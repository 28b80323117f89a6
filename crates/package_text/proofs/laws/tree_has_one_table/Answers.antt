use Rattle.package_text.proofs.OneTablePerTree.HasOneClosedTable.{one-table}
use Rattle.package_text.proofs.laws.tree_has_one_table.Goals as goal

pub returns : goal.returns
returns c = λ f r s a b p q. one-table f r s p q a.form b.form a.distinct b.distinct
