use Rattle.memory.proofs.SpaceAlike.{spaces_free_alike}
use Rattle.memory.proofs.laws.spaces_release_alike.Goals as goal

pub returns : goal.returns
returns c = spaces_free_alike
