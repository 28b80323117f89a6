use Rattle.std.proofs.Common.{◌≡◌, map, take}
use Rattle.package_names.specs.Asked.{is_asked_of}
use Rattle.package_adding.proofs.marking.asked_interfaces.Given as goal

abbrev pub invariant-loop-interface : goal.invariant-loop-interface
invariant-loop-interface l = l.marks.items ≡ map (is_asked_of l.asked) (take l.interface-index l.interface-items)
