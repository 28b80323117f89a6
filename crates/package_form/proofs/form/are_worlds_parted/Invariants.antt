use Rattle.std.proofs.Common.{◌≡◌, drop}
use Rattle.package_form.specs.Ends.{are_worlds_parted}
use Rattle.package_form.proofs.form.are_worlds_parted.Given as goal

abbrev pub invariant-loop-world : goal.invariant-loop-world
invariant-loop-world l = are_worlds_parted l.count l.start (drop l.world-index l.worlds) ≡ are_worlds_parted l.count l.first l.worlds
