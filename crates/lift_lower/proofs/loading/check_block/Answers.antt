use Rattle.std.proofs.Common.{refl}
use Rattle.lift_lower.proofs.TextsAndBlocksStand.{block-stands, block-fault}
use Rattle.lift_lower.proofs.loading.check_block.Goals as goal

pub returns-in-Ok-clause-value : goal.returns-in-Ok-clause-value
returns-in-Ok-clause-value c = block-stands c.args.memory.now c.args.at c.args.align c.args.size c.in-Ok.ensures.ok.0 c.in-Ok.ensures.ok.1

pub returns-in-Err-clause-value : goal.returns-in-Err-clause-value
returns-in-Err-clause-value c = block-fault c.args.memory.now c.args.at c.args.align c.args.size c.in-Err.kind (c.in-Err.ensures.fault c.args.memory.now refl)
