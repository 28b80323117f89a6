use Rattle.package_text.proofs.TableRows.RowsStandForTrees.{function-earlier}
use Rattle.package_text.proofs.world.item_tree.Goals as goal

pub func-requires-clause-earlier : goal.func-requires-clause-earlier
func-requires-clause-earlier c = function-earlier c.args.resolve.now c.in-Function.id.0 c.signature-function.result.now c.signature-function.ensures
