use Rattle.std.proofs.Common.{◌≡◌}
use Rattle.vectors.proofs.alone.taken_alone.Given as goal

abbrev pub invariant-loop-step : goal.invariant-loop-step
invariant-loop-step l = l.session.package.now ≡ l.package
