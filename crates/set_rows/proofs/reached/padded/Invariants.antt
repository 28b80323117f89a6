use Rattle.std.proofs.Common.{◌≡◌}
use Rattle.set_rows.specs.Reaches.{padded}
use Rattle.set_rows.proofs.reached.padded.Given as goal

abbrev pub invariant-loop-place : goal.invariant-loop-place
invariant-loop-place l = l.marks.items ≡ padded l.place l.given
