use Rattle.std.proofs.Common.{◌≡◌, IfSome, flat_map, take}
use Rattle.overview.specs.LayoutLines.{lines_in}
use Rattle.overview.proofs.layouts.laid_out.Given as goal

abbrev pub invariant-loop-interface : goal.invariant-loop-interface
invariant-loop-interface l = IfSome l.text (λ all. all ≡ flat_map (lines_in l.resolve l.own) (take l.interface-index l.resolve.interfaces))
