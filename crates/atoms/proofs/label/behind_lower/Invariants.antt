use Rattle.std.proofs.Common.{◌≡◌, length}
use Rattle.atoms.specs.Lower.{behind_lower}
use Rattle.atoms.proofs.label.behind_lower.Given as goal

abbrev pub invariant-loop-rest : goal.invariant-loop-rest
invariant-loop-rest l = behind_lower l.rest ≡ behind_lower l.text

abbrev pub decreases-loop-rest : goal.decreases-loop-rest
decreases-loop-rest l = length l.rest
