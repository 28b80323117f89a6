use Rattle.std.proofs.Common.{flat_map, encode_utf8, replicate}
use Rattle.text_builder.specs.Growth.{Grows}
use Rattle.text_builder.proofs.TextBuilder.push_times.Given as goal

abbrev pub invariant-loop-time : goal.invariant-loop-time
invariant-loop-time l = Grows (flat_map encode_utf8 (replicate l._time l.character)) l.fn.self l.self
