use Rattle.std.proofs.Common.{◌≡◌, drop}
use Rattle.package_form.specs.Closed.{has_each_package}
use Rattle.package_form.proofs.closed.has_each_package.Given as goal

abbrev pub invariant-loop-interface : goal.invariant-loop-interface
invariant-loop-interface l = has_each_package l.last l.next (drop l.interface-index l.interfaces) ≡ has_each_package l.last 0 l.interfaces
