use Rattle.std.proofs.Common.{map, take, All}
use Rattle.atoms.specs.Label.{IsLabel}
use Rattle.package_form.specs.Naming.{interface_name}
use Rattle.package_text.proofs.labels.interfaces.Given as goal

abbrev pub invariant-loop-interface : goal.invariant-loop-interface
invariant-loop-interface l = All IsLabel (map interface_name (take l.interface-index l.interfaces))
