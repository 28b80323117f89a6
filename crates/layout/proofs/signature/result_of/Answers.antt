use Rattle.std.proofs.Common.{arith}
use Rattle.layout.proofs.KindsOfBits.{address-packed}
use Rattle.layout.proofs.signature.result_of.Goals as goal

pub returns-in_default : goal.returns-in_default
returns-in_default c = rw (← c.kinds.view_is) (address-packed c.kinds.inside.count c.kinds.inside.wide (omega arith))
