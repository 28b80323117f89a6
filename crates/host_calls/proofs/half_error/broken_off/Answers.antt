-- The blocks that are not left come before the index.
use Rattle.std.proofs.Common.{ap, ◌∙◌, arith}
use Rattle.std.proofs.lemmas.Bool.Decides.{nat_tests}
use Rattle.canonical_abi.specs.declared.trap.Fault.TheVariants.{Trap}
use Rattle.host_calls.proofs.half_error.broken_off.Goals as goal

pub returns-in-Full : goal.returns-in-Full
returns-in-Full c = (
  grind (arith, nat_tests),
  grind (arith, nat_tests),
  (c.in-Trap.trap.step, c.in-Trap.is ∙ ap (λ k. Trap (record { kind = k; step = c.in-Trap.trap.step })) c.in-Full.is),
)
