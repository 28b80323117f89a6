use Rattle.std.proofs.Common.{◌≡◌, drop}
use Rattle.std.specs.List.{list_any}
use Rattle.package_form.specs.Closed.{is_same_package}
use Rattle.package_sets.proofs.joining.has_package.Given as goal

abbrev pub invariant-loop-other : goal.invariant-loop-other
invariant-loop-other l = list_any (is_same_package l.name) (drop l.other-index l.set.packages) ≡ list_any (is_same_package l.name) l.set.packages
