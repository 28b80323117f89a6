use Rattle.std.proofs.Common.{◌≡◌, map, take}
use Rattle.package_form.specs.Reached.{is_interface_of}
use Rattle.set_rows.proofs.reached.own_interfaces.Given as goal

abbrev pub invariant-loop-interface : goal.invariant-loop-interface
invariant-loop-interface l = l.marks.items ≡ map (is_interface_of l.id.0) (take l.interface-index l.interfaces)
