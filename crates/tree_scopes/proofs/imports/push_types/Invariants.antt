use Rattle.std.proofs.Common.{◌≡◌, ◌++◌, take}
use Rattle.std.specs.List.{filter_map}
use Rattle.package_form.specs.Entries.{Table}
use Rattle.tree_meaning.specs.Imports.{type_within}
use Rattle.tree_scopes.specs.KnownScopes.{IsScope, scope_names}
use Rattle.tree_scopes.proofs.imports.push_types.Given as goal

abbrev pub invariant-loop-id : goal.invariant-loop-id
invariant-loop-id l = record {
  names : scope_names l.scope ≡ scope_names l.initial.scope ++ filter_map (type_within l.rows l.initial.scope.interface.0) (take l.id-index l.ids);
  interface : l.scope.interface ≡ l.initial.scope.interface;
  scoped : (t : Table) → t.rows ≡ l.rows → IsScope t l.initial.scope → IsScope t l.scope;
}
