use Rattle.std.proofs.Common.{map}
use Rattle.tree_scopes.specs.Sources.{declared_tree}
use Rattle.tree_rows.proofs.InterfacesInPackageOrder.{PackageSoFar}
use Rattle.tree_rows.proofs.assembly.define_package.Given as goal

abbrev pub invariant-loop-place : goal.invariant-loop-place
invariant-loop-place l = PackageSoFar l.plan.imports.now l.place (map declared_tree l.plan.all.now) l.plan.order.now l.plan.types.now l.initial.builder l.builder l.scopes.items
