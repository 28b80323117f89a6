use Rattle.layout.proofs.KindsOfBits.{one-packed}
use Rattle.layout.proofs.signature.is_one.Goals as goal

pub returns : goal.returns
returns c = rw (← c.kinds.view_is) (one-packed c.kinds.inside.count c.kinds.inside.wide)
