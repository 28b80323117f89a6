use Rattle.canonical_abi.proofs.Sessions.OnlyValuesCross.{only-values-cross}
use Rattle.canonical_abi.proofs.laws.only_values_cross.Goals as goal

pub returns : goal.returns
returns g c = only-values-cross _ _ _ _ _
