use Rattle.std.proofs.Common.{◌≡◌, drop}
use Rattle.package_form.specs.Ends.{interfaces_end}
use Rattle.package_form.proofs.ends.interfaces_end.Given as goal

abbrev pub invariant-loop-interface : goal.invariant-loop-interface
invariant-loop-interface l = interfaces_end l.start (drop l.interface-index l.interfaces) ≡ interfaces_end 0 l.interfaces
