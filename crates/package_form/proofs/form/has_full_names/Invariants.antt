use Rattle.std.proofs.Common.{◌≡◌, true, take}
use Rattle.std.specs.List.{list_all}
use Rattle.package_form.specs.Form.{is_package_name}
use Rattle.package_form.proofs.form.has_full_names.Given as goal

abbrev pub invariant-loop-package : goal.invariant-loop-package
invariant-loop-package l = list_all is_package_name (take l.package-index l.package-items) ≡ true
