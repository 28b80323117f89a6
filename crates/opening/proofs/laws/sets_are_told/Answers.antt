use Rattle.opening.proofs.SetIsTold.{set-is-told}
use Rattle.opening.proofs.laws.sets_are_told.Goals as goal

pub returns : goal.returns
returns c = set-is-told
