use Rattle.std.proofs.Common.{Option, IfSome, IfNone, sym, subst}
use Rattle.tables.specs.Closed.{IsFunction}
use Rattle.tables.specs.Names.{IsNamed}
use Rattle.tables.specs.declared.tables.FunctionId.{FunctionId}
use Rattle.function_index.proofs.RowsUnderFullNames.{found, function, none}
use Rattle.function_index.proofs.index.FunctionIndex.function.Goals as goal

pub returns-clause-found : goal.returns-clause-found
returns-clause-found c = λ r index.
    let iface = c.args.iface.now in
    let name = c.args.name.now in
    subst (λ (o : Option FunctionId). IfSome o (IsNamed r iface name)) (sym c.look_up.ensures) (found r iface name c.args.self.now index)

pub returns-clause-function : goal.returns-clause-function
returns-clause-function c = λ r index. subst (λ (o : Option FunctionId). IfSome o (IsFunction r)) (sym c.look_up.ensures) (function r c.args.iface.now c.args.name.now c.args.self.now index)

pub returns-clause-none : goal.returns-clause-none
returns-clause-none c = λ r index.
    let iface = c.args.iface.now in
    let name = c.args.name.now in
    subst (λ (o : Option FunctionId). IfNone o ((f : FunctionId) → ¬ IsNamed r iface name f)) (sym c.look_up.ensures) (none r iface name c.args.self.now index)
