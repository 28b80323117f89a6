use Rattle.std.proofs.Common.{◌<◌}
use Rattle.json_faults.proofs.fault.+wrong_in.Given as goal

abbrev pub decreases-wrong_in : goal.decreases-wrong_in
decreases-wrong_in l = l.levels

abbrev pub invariant-loop-part : goal.invariant-loop-part
invariant-loop-part l = l.rest < l.levels
