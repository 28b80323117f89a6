use Rattle.std.proofs.Common.{flat_map, take}
use Rattle.text_builder.specs.Growth.{Grows}
use Rattle.text_builder.proofs.TextBuilder.push_all.Given as goal

abbrev pub invariant-loop-part : goal.invariant-loop-part
invariant-loop-part l = Grows (flat_map (λ part. part.now) (take l.part-index l.parts)) l.fn.self l.self
