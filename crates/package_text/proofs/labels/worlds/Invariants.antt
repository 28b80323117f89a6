use Rattle.std.proofs.Common.{map, take, All}
use Rattle.atoms.specs.Label.{IsLabel}
use Rattle.package_form.specs.Naming.{label_of}
use Rattle.package_text.proofs.labels.worlds.Given as goal

abbrev pub invariant-loop-world : goal.invariant-loop-world
invariant-loop-world l = All IsLabel (map label_of (take l.world-index l.worlds))
