use Rattle.std.proofs.Common.{◌≡◌, length}
use Rattle.checked_packages.proofs.carried.Carried.texts.Given as goal

abbrev pub invariant-loop-place : goal.invariant-loop-place
invariant-loop-place l = length l.texts.items ≡ l.place
