use Rattle.canonical_abi.proofs.Sessions.OnlyValuesCross.{only-values-cross-live}
use Rattle.canonical_abi.proofs.laws.tame_only_values_cross.Goals as goal

pub returns : goal.returns
returns g c = only-values-cross-live _ _ _ _ _ _
