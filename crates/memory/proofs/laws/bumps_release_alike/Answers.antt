use Rattle.memory.proofs.BumpAlike.{bumps_free_alike}
use Rattle.memory.proofs.laws.bumps_release_alike.Goals as goal

pub returns : goal.returns
returns c = bumps_free_alike
