use Rattle.std.proofs.Common.{rules}
use Rattle.ranges.proofs.WordsUnderMasks.{chosen-byte}
use Rattle.ranges.proofs.words.choose.Goals as goal

pub returns : goal.returns
returns c = λ k h m. chosen-byte c.args.old c.args.new c.args.mask (search rules) k h m
