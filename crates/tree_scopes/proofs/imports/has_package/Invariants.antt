use Rattle.std.proofs.Common.{◌≡◌, drop}
use Rattle.std.specs.List.{list_any}
use Rattle.package_form.specs.Closed.{is_same_package}
use Rattle.tree_meaning.specs.Finished.{header_name}
use Rattle.tree_scopes.proofs.imports.has_package.Given as goal

abbrev pub invariant-loop-package : goal.invariant-loop-package
invariant-loop-package l = list_any (λ p. is_same_package p (header_name l.id)) (drop l.package-index l.packages) ≡ list_any (λ p. is_same_package p (header_name l.id)) l.packages
