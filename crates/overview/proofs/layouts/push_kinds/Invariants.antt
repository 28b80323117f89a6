use Rattle.std.proofs.Common.{◌++◌, flat_map, codes, take}
use Rattle.text_builder.specs.Growth.{Grows}
use Rattle.overview.specs.LayoutLines.{kind_word}
use Rattle.overview.proofs.layouts.push_kinds.Given as goal

abbrev pub invariant-loop-kind : goal.invariant-loop-kind
invariant-loop-kind l = Grows (flat_map (λ k. codes " " ++ kind_word k) (take l.kind-index l.kinds)) l.fn.text l.text
