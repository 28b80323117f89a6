-- Blocks that rise are apart, and others are exactly where they rise by their addresses.
use Rattle.std.proofs.Common.{sym, ap, ◌∙◌}
use Rattle.memory.specs.Blocks.{rise}
use Rattle.memory.proofs.BlocksApart.{apart_from_rise, rise_by_address}
use Rattle.memory.proofs.block.are_apart.Goals as goal

pub returns-then-rise-clause-apart : goal.returns-then-rise-clause-apart
returns-then-rise-clause-apart c = sym (apart_from_rise 0 c.args.blocks.now (sym c.rise.ensures ∙ c.if-rise.true))

pub returns-clause-apart : goal.returns-clause-apart
returns-clause-apart c = c.rise-2.ensures ∙ ap (rise 0) c.as_slice.ensures.value ∙ rise_by_address c.args.blocks.now c.in_ok-sorted.sorted.items c.in_ok-sorted.ensures
