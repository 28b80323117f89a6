use Rattle.std.proofs.Common.{◌∙◌, arith}
use Rattle.crossing.proofs.OneFieldCrosses.{one-type-size}
use Rattle.crossing.proofs.walk.Walk.extent_of.Goals as goal

pub returns-in-len1-clause-size : goal.returns-in-len1-clause-size
returns-in-len1-clause-size c =
    c.size_of.ensures.value ∙ one-type-size c.args.self.now.types.now c.args.types.now _ (omega (arith, c.in-len1.len_at_least)) (omega (arith, c.in-len1.len_below))
