use Rattle.canonical_abi.proofs.Calls.TrapsHaveCauses.{traps-have-causes}
use Rattle.canonical_abi.proofs.laws.traps_have_causes.Goals as goal

pub returns : goal.returns
returns g c = traps-have-causes _ _
