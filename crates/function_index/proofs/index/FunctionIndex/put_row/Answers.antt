use Rattle.std.proofs.Common.{ap}
use Rattle.tables.specs.declared.tables.Function.{Function}
use Rattle.std.specs.Option.{option_map}
use Rattle.function_index.proofs.FunctionsPutUnderNames.{on-ok}
use Rattle.function_index.proofs.RowsUnderFullNames.{one-more, none-more, nameless}
use Rattle.function_index.proofs.index.FunctionIndex.put_row.Goals as goal

pub returns : goal.returns
returns c = λ cs start.
    let r = c.args.table.now in
    let row = c.args.row in
    on-ok c.put.result (one-more r cs c.args.self.now c.args.interface.now row start c.signature-function.result.now.name c.put.new.self (ap (option_map (λ (f : Function). f.name)) c.signature-function.ensures)) c.put.ensures

pub returns-then-not-is_function : goal.returns-then-not-is_function
returns-then-not-is_function c = λ cs start. none-more c.args.table.now cs c.args.self.now c.args.interface.now c.args.row start (nameless c.args.table.now c.args.row (λ yes. let said = c.is_function.ensures.1 yes in let not_said = c.if-not-is_function.true in absurd (cc)))
