use Rattle.std.proofs.Common.{flat_map, take}
use Rattle.text_builder.specs.Growth.{Grows}
use Rattle.overview.specs.Contents.{interface_shown}
use Rattle.overview.proofs.contents.push_interfaces.Given as goal

abbrev pub invariant-loop-interface : goal.invariant-loop-interface
invariant-loop-interface l = Grows (flat_map (interface_shown l.own) (take l.interface-index l.interfaces)) l.fn.text l.text
