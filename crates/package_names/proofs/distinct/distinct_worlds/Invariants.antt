use Rattle.std.proofs.Common.{◌≡◌, ◌++◌, List, ℕ, IsTrue, map, flat_map, take, drop, length, All}
use Rattle.tables.specs.Tables.{are_placed_worlds}
use Rattle.tables.specs.Names.{world_name}
use Rattle.tables.specs.Package.{world_meaning, interface_names, trees}
use Rattle.package_form.specs.Scope.{AreDistinct}
use Rattle.package_form.specs.Distinct.{AreMetInEach}
use Rattle.package_form.specs.Naming.{world_labels_of, world_scopes}
use Rattle.package_names.proofs.distinct.distinct_worlds.Given as goal

abbrev pub invariant-loop-place : goal.invariant-loop-place
invariant-loop-place l = record {
  counted : length l.scopes.items ≡ length l.resolve.packages;
  names : (names : ℕ → List (List ℕ)) → AreMetInEach (length l.resolve.packages) names l.fn.met.items
      → AreMetInEach (length l.resolve.packages) (λ k. names k ++ world_labels_of (take l.place l.world-items) k) l.scopes.items;
  parts : All AreDistinct (flat_map world_scopes (map (λ w. world_meaning (interface_names l.resolve) (trees l.resolve) l.resolve.definitions (world_name l.resolve w) w) (take l.place l.world-items)));
  placed : IsTrue (are_placed_worlds l.resolve.definitions (length l.resolve.interfaces) l.place (drop l.place l.world-items));
}
