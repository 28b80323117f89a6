use Rattle.std.proofs.Common.{◌≡◌, drop}
use Rattle.package_form.specs.Ends.{is_parted}
use Rattle.package_form.proofs.form.is_parted.Given as goal

abbrev pub invariant-loop-interface : goal.invariant-loop-interface
invariant-loop-interface l = is_parted l.count l.start (drop l.interface-index l.interfaces) l.worlds ≡ is_parted l.count 0 l.interfaces l.worlds
