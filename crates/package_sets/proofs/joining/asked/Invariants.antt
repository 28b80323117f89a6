use Rattle.std.proofs.Common.{take}
use Rattle.package_sets.specs.Asking.{AsksFor}
use Rattle.package_sets.proofs.joining.asked.Given as goal

abbrev pub invariant-loop-import : goal.invariant-loop-import
invariant-loop-import l = AsksFor l.set l.closed (take l.import-index l.imports) l.asked
