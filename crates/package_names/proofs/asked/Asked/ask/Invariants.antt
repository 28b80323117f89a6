use Rattle.package_names.specs.Indexed.{key_parts}
use Rattle.package_names.proofs.NamesAskedOfPackages.{AreAskedFor}
use Rattle.package_names.proofs.asked.Asked.ask.Given as goal

abbrev pub invariant-loop-place : goal.invariant-loop-place
invariant-loop-place l = AreAskedFor (key_parts l.key) l.name l.packages l.place l.initial.self l.self
