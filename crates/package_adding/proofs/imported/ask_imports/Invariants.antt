use Rattle.std.proofs.Common.{Bool, List, ℕ, take}
use Rattle.tables.specs.PackageNames.{PackageParts}
use Rattle.package_sets.specs.Joining.{imports}
use Rattle.package_adding.specs.ImportNames.{marked_names}
use Rattle.package_adding.specs.Asked.{also, AreAsked}
use Rattle.package_adding.proofs.imported.ask_imports.Given as goal

abbrev pub invariant-loop-place : goal.invariant-loop-place
invariant-loop-place l = (names : PackageParts → List ℕ → Bool) → AreAsked l.set names l.initial.asked → AreAsked l.set (also names (marked_names l.closed l.reached (take l.place (imports l.closed)))) l.asked
