use Rattle.canonical_abi.proofs.Sessions.TameTrapsShowValues.{traps-show-live}
use Rattle.canonical_abi.proofs.laws.tame_traps_show_values.Goals as goal

pub returns : goal.returns
returns g c = traps-show-live _ _ _
