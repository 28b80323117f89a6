use Rattle.canonical_abi.proofs.Sessions.OnlyValuesCross.{traps-show-values}
use Rattle.canonical_abi.proofs.laws.traps_show_values.Goals as goal

pub returns : goal.returns
returns g c = traps-show-values _ _ _
