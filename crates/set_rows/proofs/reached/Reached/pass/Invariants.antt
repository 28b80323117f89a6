use Rattle.std.proofs.Common.{length, ◌-◌}
use Rattle.set_rows.proofs.MarksOfReached.{PassesFrom}
use Rattle.set_rows.proofs.reached.Reached.pass.Given as goal

abbrev pub invariant-loop-behind : goal.invariant-loop-behind
invariant-loop-behind l = PassesFrom l.set (length l.set.definitions - l.behind) l.initial.self l.self l.grew
