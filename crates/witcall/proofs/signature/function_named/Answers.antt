use Rattle.std.proofs.Common.{sym, subst}
use Rattle.tables.specs.Names.{IsNamed}
use Rattle.witcall.proofs.signature.function_named.Goals as goal

pub returns-in-None-clause-none : goal.returns-in-None-clause-none
returns-in-None-clause-none c = λ f named.
    c.in-None.ensures.none f (subst (λ r. IsNamed r c.args.iface.now c.args.func.now f) (sym c.resolve.ensures) named)
