use Rattle.std.proofs.Common.{[], arith}
use Rattle.ranges.proofs.ColumnsLaidOverCaps.{seen-nothing, seen-both}
use Rattle.ranges.proofs.columns.+fill_columns.Goals as goal

pub returns-in-empty-clause-nodes : goal.returns-in-empty-clause-nodes
returns-in-empty-clause-nodes t c = seen-nothing c.args.columns.now c.args.elements.step c.args.source.now c.args.elements.from c.args.elements.count c.in-empty.len_below

pub returns-in_ok-others-in-len1-up-clause-nodes : goal.returns-in_ok-others-in-len1-up-clause-nodes
returns-in_ok-others-in-len1-up-clause-nodes t c =
    let one = c.in_ok-seen-in-len1-up.ensures.nodes in
    let two = c.in_ok-others-in-len1-up.ensures.nodes in
    let both = seen-both c.args.columns.now (record { at = 0; rows = record { size = 0; cases = 0; caps = []; nodes = [] } }) c.args.elements.step c.args.source.now c.args.elements.from c.args.elements.count c.in-len1-up.len_at_least in
    omega (arith, one, two, both)
