use Rattle.std.proofs.Common.{take}
use Rattle.package_sets.specs.Joining.{AreFound}
use Rattle.package_sets.proofs.joining.found.Given as goal

abbrev pub invariant-loop-import : goal.invariant-loop-import
invariant-loop-import l = AreFound l.set l.closed (take l.import-index l.imports) l.places.items
