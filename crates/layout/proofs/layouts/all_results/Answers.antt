use Rattle.std.proofs.Common.{length, ap, arith}
use Rattle.layout.proofs.RowsSoFar.{next-result, length-table}
use Rattle.layout.proofs.layouts.all_results.Goals as goal

pub push_result-requires-clause-below : goal.push_result-requires-clause-below
push_result-requires-clause-below c =
    let count = ap length c.as_slice-definition-items.ensures in
    let rows = length-table c.args.resolve.now c.args.rows.now c.requires.rows in
    next-result c.args.resolve.now (length c.args.rows.now) c.loop-definition.definition-index c.definition-item.result (omega arith) (omega arith) (cc)
