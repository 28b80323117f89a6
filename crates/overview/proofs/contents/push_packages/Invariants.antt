use Rattle.std.proofs.Common.{flat_map, take}
use Rattle.text_builder.specs.Growth.{Grows}
use Rattle.overview.specs.Contents.{package_line}
use Rattle.overview.proofs.contents.push_packages.Given as goal

abbrev pub invariant-loop-name : goal.invariant-loop-name
invariant-loop-name l = Grows (flat_map package_line (take l.name-index l.packages)) l.fn.text l.text
