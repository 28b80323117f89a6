use Rattle.std.proofs.Common.{[], refl, arith}
use Rattle.host_values.proofs.telling.tell.Goals as goal

pub returns-then-size-gt-MAX_BLOCK : goal.returns-then-size-gt-MAX_BLOCK
returns-then-size-gt-MAX_BLOCK c = (refl, ([], [], _, refl, omega (arith, c.if-size-gt-MAX_BLOCK.true)))
