use Rattle.std.proofs.Common.{◌-◌, length, drop}
use Rattle.set_rows.proofs.OwnersOfRows.{OwnersBehind}
use Rattle.set_rows.proofs.owners.owners.Given as goal

abbrev pub invariant-loop-behind : goal.invariant-loop-behind
invariant-loop-behind l = OwnersBehind (drop (length l.rows - l.behind) l.rows) l.owners.items l.last
