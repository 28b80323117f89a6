use Rattle.std.proofs.Common.{◌*◌, ap, sym, ◌∙◌, arith}
use Rattle.std.specs.Int.{w32}
use Rattle.canonical_abi.specs.Values.{is_scalar}
use Rattle.ranges.proofs.FrontsThatCrossed.{part-number}
use Rattle.ranges.proofs.chars.are_chars.Goals as goal

pub returns : goal.returns
returns c = λ good i h.
    ap is_scalar (sym (part-number w32 c.args.memory.now c.args.from (4 * c.args.count) (i * 4) (omega (arith, h)) c.requires.inside)) ∙ c.all_chars.ensures good i h
