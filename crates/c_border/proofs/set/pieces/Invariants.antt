use Rattle.std.proofs.Common.{◌≡◌, ◌++◌, map, length, take}
use Rattle.std.specs.List.{concat}
use Rattle.opening.specs.Sets.{all_bytes}
use Rattle.c_border.proofs.set.pieces.Given as goal

abbrev pub invariant-loop-length : goal.invariant-loop-length
invariant-loop-length l = (map length (all_bytes l.inputs.items) ≡ take l.length-index l.lengths) × (concat (all_bytes l.inputs.items) ++ l.rest ≡ l.fn.bytes)
