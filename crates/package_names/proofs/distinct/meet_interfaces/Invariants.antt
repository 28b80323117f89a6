use Rattle.std.proofs.Common.{ℕ, List, IsTrue, take, drop, length, All, Contains}
use Rattle.package_form.specs.Scope.{AreDistinct}
use Rattle.package_form.specs.Distinct.{AreMetInEach}
use Rattle.package_form.specs.Ends.{is_parted}
use Rattle.package_form.specs.Naming.{interface_labels_of, interfaces_scopes}
use Rattle.package_names.proofs.distinct.meet_interfaces.Given as goal

abbrev pub invariant-loop-interface : goal.invariant-loop-interface
invariant-loop-interface l = record {
  parted : IsTrue (is_parted (length l.rows) l.start (drop l.interface-index l.interfaces) l.worlds);
  names : AreMetInEach (length l.packages) (interface_labels_of (take l.interface-index l.interfaces)) l.scopes.items;
  parts : All AreDistinct (interfaces_scopes l.rows l.start (drop l.interface-index l.interfaces))
      → All AreDistinct (interfaces_scopes l.rows 0 l.interfaces);
  among : (ns : List (List ℕ)) → Contains (interfaces_scopes l.rows l.start (drop l.interface-index l.interfaces)) ns
      → Contains (interfaces_scopes l.rows 0 l.interfaces) ns;
}
