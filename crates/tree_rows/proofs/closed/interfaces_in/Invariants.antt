use Rattle.std.proofs.Common.{◌≡◌, take}
use Rattle.tree_meaning.specs.Resolves.{interfaces_behind}
use Rattle.tree_rows.proofs.closed.interfaces_in.Given as goal

abbrev pub invariant-loop-place : goal.invariant-loop-place
invariant-loop-place l = l.interfaces.items ≡ interfaces_behind l.fn.«package».0 l.first (take l.place l.rows) l.plan.labels.now
