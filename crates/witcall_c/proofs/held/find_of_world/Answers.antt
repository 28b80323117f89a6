-- Of names that are UTF-8 no function of that side has them.
use Rattle.std.proofs.Common.{Err, refl, subst}
use Rattle.host_calls.specs.declared.error.CallError.TheVariants.{NoFunction}
use Rattle.witcall_c.specs.Calls.{FindsOfWorld}
use Rattle.witcall_c.proofs.held.find_of_world.Goals as goal

pub returns-in-None : goal.returns-in-None
returns-in-None c =
    let none = rw (c.in-Ok-Ok.ensures.cases.0, c.in-Ok-Ok.ensures'.cases.0) at c.in-None.ensures.none in
    subst (λ p. FindsOfWorld p c.args.world.now c.args.side c.args.name.now (Err NoFunction)) c.in-Some.ensures (refl, λ a b. none)
