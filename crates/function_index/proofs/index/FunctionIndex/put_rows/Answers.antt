use Rattle.std.proofs.Common.{◌++◌, List, take, sym, subst, append-nil, arith}
use Rattle.std.proofs.lemmas.List.{get_or_default}
use Rattle.function_index.specs.Index.{Candidate, IsIndexOver, under}
use Rattle.function_index.proofs.RowsUnderFullNames.{under-more, all-under}
use Rattle.function_index.proofs.index.FunctionIndex.put_rows.Goals as goal

pub loop-row-init : goal.loop-row-init
loop-row-init c = λ cs start. subst (λ (ds : List Candidate). IsIndexOver c.args.table.now ds c.args.self.now) (sym (append-nil cs)) start

pub loop-row-preserved : goal.loop-row-preserved
loop-row-preserved c = λ cs start.
    let iface = c.args.interface.now in
    let k = c.loop-row.row-index in
    let before = cs ++ under iface (take k c.args.rows.now) in
    subst (λ (ds : List Candidate). IsIndexOver c.args.table.now ds c.put_row.new.self) (sym (under-more cs iface c.args.rows.now k _ (omega arith) (get_or_default c.args.rows.now k _ _ (omega arith))))
    (c.in_ok-put_row.ensures before (c.loop-row.invariant cs start))

pub returns : goal.returns
returns c = λ cs start.
    subst (λ (ds : List Candidate). IsIndexOver c.args.table.now (cs ++ ds) c.loop-row.self) (all-under c.args.interface.now c.args.rows.now c.loop-row.row-index (omega arith))
    (c.loop-row.invariant cs start)
