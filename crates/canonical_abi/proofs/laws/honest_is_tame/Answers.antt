use Rattle.canonical_abi.specs.TameLaws.{HonestIsTame}
use Rattle.canonical_abi.proofs.laws.honest_is_tame.Goals as goal

pub returns : goal.returns
returns g c = HonestIsTame _ _
