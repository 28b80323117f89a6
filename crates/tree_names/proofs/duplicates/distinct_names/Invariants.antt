use Rattle.std.proofs.Common.{map, flat_map, take, All}
use Rattle.wit_tokens.specs.View.{item_view}
use Rattle.tree_meaning.specs.Scopes.{file_name, interface_scopes}
use Rattle.package_form.specs.Scope.{AreDistinct}
use Rattle.package_form.specs.Distinct.{AreMet}
use Rattle.tree_names.proofs.duplicates.distinct_names.Given as goal

abbrev pub invariant-loop-item : goal.invariant-loop-item
invariant-loop-item l = record {
  names : AreMet (map file_name (map item_view (take l.item-index l.items))) l.scope;
  parts : All AreDistinct (flat_map (interface_scopes l.«package») (map item_view (take l.item-index l.items)));
}
