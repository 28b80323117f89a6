-- Of names that are UTF-8 no function of the package has them.
use Rattle.std.proofs.Common.{Err, refl, subst}
use Rattle.std.specs.Option.{option_map}
use Rattle.host_calls.specs.declared.error.CallError.TheVariants.{NoFunction}
use Rattle.witcall_c.specs.Calls.{FindsFunction}
use Rattle.witcall_c.proofs.held.find.Goals as goal

pub returns-in-None : goal.returns-in-None
returns-in-None c =
    let none = rw (c.in-Ok-Ok.ensures.cases.0, c.in-Ok-Ok.ensures'.cases.0) at c.in-None.ensures.none in
    subst (λ i. FindsFunction (option_map (λ p. p.«package») i) c.args.interface.now c.args.name.now (Err NoFunction)) c.in-Some.ensures (refl, λ a b. none)
