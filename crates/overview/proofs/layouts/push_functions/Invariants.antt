use Rattle.std.proofs.Common.{flat_map, take}
use Rattle.text_builder.specs.Growth.{Grows}
use Rattle.overview.specs.LayoutLines.{function_line}
use Rattle.overview.proofs.layouts.push_functions.Given as goal

abbrev pub invariant-loop-id : goal.invariant-loop-id
invariant-loop-id l = Grows (flat_map (function_line l.resolve l.interface) (take l.id-index l.ids)) l.fn.text l.text
