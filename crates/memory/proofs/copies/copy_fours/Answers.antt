use Rattle.std.proofs.Common.{◌∙◌, arith}
use Rattle.memory.proofs.CopiedEnds.{ends-whole}
use Rattle.memory.proofs.copies.copy_fours.Goals as goal

pub returns : goal.returns
returns c =
    let r = c.requires in
    ends-whole 4 c.args.source.now c.args.target.now c.copy_from_slice.new.self c.copy_from_slice-2.new.self r.same r.some (omega (arith, r.few)) (c.copy_from_slice.ensures.after ∙ c.four_at-first.ensures) (c.copy_from_slice-2.ensures.after ∙ c.four_at-last.ensures)
