use Rattle.std.proofs.Common.{map, flat_map, take, All}
use Rattle.wit_tokens.specs.View.{entry_view}
use Rattle.tree_meaning.specs.Declarations.{entry_names, entry_scopes}
use Rattle.package_form.specs.Scope.{AreDistinct}
use Rattle.package_form.specs.Distinct.{AreMet}
use Rattle.tree_names.proofs.duplicates.distinct_items.Given as goal

abbrev pub invariant-loop-item : goal.invariant-loop-item
invariant-loop-item l = record {
  names : AreMet (flat_map entry_names (map entry_view (take l.item-index l.items))) l.scope;
  parts : All AreDistinct (flat_map entry_scopes (map entry_view (take l.item-index l.items)));
}
