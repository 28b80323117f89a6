use Rattle.std.proofs.Common.{◌≡◌, ◌<◌, ◌∙◌, List, All, Contains, inl, map, flat_map, length, ap, sym, subst, arith}
use Rattle.std.specs.List.{filter_map, list_all}
use Rattle.std.proofs.lemmas.Result.{err_from_is_err_and}
use Rattle.std.proofs.lemmas.Bool.Decides.{nat_tests}
use Rattle.atoms.specs.Label.{IsLabel}
use Rattle.tables.specs.PackageNames.{PackageParts}
use Rattle.tables.specs.declared.tables.Resolve.{Resolve}
use Rattle.wit_tokens.specs.View.{item_view, file_view}
use Rattle.wit_tokens.specs.declared.wit_syntax.ast.Item.{Item}
use Rattle.package_form.specs.Scope.{AreDistinct}
use Rattle.package_form.specs.Distinct.{RefusesScopes}
use Rattle.tree_meaning.specs.Declarations.{InterfaceTree, WorldTree, file_entry_packages, interface_of, world_of, interfaces, file_worlds, names_of_trees, package_named}
use Rattle.tree_meaning.specs.Knowing.{RefusesPackage, RefusesUnknown}
use Rattle.tree_meaning.specs.Imports.{imports_of}
use Rattle.tree_meaning.specs.Resolves.{HasKnownNamesOf, IsKnownWorldOf, interface_fits}
use Rattle.tree_meaning.specs.Scopes.{scopes_in}
use Rattle.tree_scopes.specs.Sources.{declared_tree}
use Rattle.tree_meaning.proofs.tree_forms.FinishedTrees.{has-entries, refuses-duplicate, refuses-package, refuses-unknown}
use Rattle.tree_names.proofs.tree.declarations.Goals as goal

pub returns-then-not-are_nested-clause-err : goal.returns-then-not-are_nested-clause-err
returns-then-not-are_nested-clause-err c =
    let items = c.args.ast.now.items.items in
    let some : 0 < length items = grind (arith, nat_tests, c.is_empty.ensures, c.if-is_empty.false) in
    inl (has-entries item_view items some, ap (λ (is : List Item). list_all interface_fits (map item_view is)) (sym c.deref.ensures.value) ∙ sym c.are_nested.ensures ∙ c.if-not-are_nested.true)

pub returns-in_err-distinct_names-clause-err : goal.returns-in_err-distinct_names-clause-err
returns-in_err-distinct_names-clause-err c =
    let p = err_from_is_err_and c.from_residual-in_err-distinct_names.result c.from_residual-in_err-distinct_names.ensures.1 in
    let f = file_view c.args.ast.now in
    let items = c.args.ast.now.items.items in
    let some : 0 < length items = grind (arith, nat_tests, c.is_empty.ensures, c.if-is_empty.false) in
    let e = c.in_err-distinct_names.field-0.0 in
    let named = subst (λ (q : PackageParts). RefusesScopes (scopes_in q (map item_view c.deref-2.result.now)) e) c.in_ok-package.ensures c.in_err-distinct_names.ensures.err in
    rw (p.1, p.2) (refuses-duplicate (imports_of c.args.imports.now.table) f e (has-entries item_view items some) (subst (λ (is : List Item). RefusesScopes (scopes_in (package_named f) (map item_view is)) e) c.deref-2.ensures.value named))

pub returns-in_err-known_packages-clause-err : goal.returns-in_err-known_packages-clause-err
returns-in_err-known_packages-clause-err c =
    let p = err_from_is_err_and c.from_residual-in_err-known_packages.result c.from_residual-in_err-known_packages.ensures.1 in
    let f = file_view c.args.ast.now in
    let items = c.args.ast.now.items.items in
    let some : 0 < length items = grind (arith, nat_tests, c.is_empty.ensures, c.if-is_empty.false) in
    let e = c.in_err-known_packages.field-0.0 in
    let distinct = subst (λ (is : List Item). All AreDistinct (scopes_in (package_named f) (map item_view is))) c.deref-2.ensures.value
    (subst (λ (q : PackageParts). All AreDistinct (scopes_in q (map item_view c.deref-2.result.now))) c.in_ok-package.ensures c.in_ok-distinct_names.ensures.ok) in
    rw (p.1, p.2) (refuses-package (imports_of c.args.imports.now.table) f e (has-entries item_view items some) distinct
    (subst (λ (is : List Item). RefusesPackage c.args.imports.now.table.packages (flat_map file_entry_packages (map item_view is)) e) c.deref-3.ensures.value (subst (λ (ps : List PackageParts). RefusesPackage ps (flat_map file_entry_packages (map item_view c.deref-3.result.now)) e) (c.as_slice.ensures ∙ ap (λ (r : Resolve). r.packages) c.table.ensures) c.in_err-known_packages.ensures.err)))

pub known_names-requires : goal.known_names-requires
known_names-requires c =
    ap (map declared_tree) c.deref-5.ensures.value ∙ c.in_ok-all.ensures
    ∙ ap (λ (is : List Item). filter_map interface_of (map item_view is)) (c.deref-4.ensures.value ∙ sym c.deref-6.ensures.value)

pub returns-in_err-known_names-clause-err : goal.returns-in_err-known_names-clause-err
returns-in_err-known_names-clause-err c =
    let p = err_from_is_err_and c.from_residual-in_err-known_names.result c.from_residual-in_err-known_names.ensures.1 in
    let f = file_view c.args.ast.now in
    let items = c.args.ast.now.items.items in
    let some : 0 < length items = grind (arith, nat_tests, c.is_empty.ensures, c.if-is_empty.false) in
    let e = c.in_err-known_names.field-0.0 in
    let same : map declared_tree c.deref-5.result.now ≡ interfaces f = ap (map declared_tree) c.deref-5.ensures.value ∙ c.in_ok-all.ensures
    ∙ ap (λ (is : List Item). filter_map interface_of (map item_view is)) c.deref-4.ensures.value in
    let distinct = subst (λ (is : List Item). All AreDistinct (scopes_in (package_named f) (map item_view is))) c.deref-2.ensures.value
    (subst (λ (q : PackageParts). All AreDistinct (scopes_in q (map item_view c.deref-2.result.now))) c.in_ok-package.ensures c.in_ok-distinct_names.ensures.ok) in
    let there = subst (λ (is : List Item). All (Contains c.args.imports.now.table.packages) (flat_map file_entry_packages (map item_view is))) c.deref-3.ensures.value (subst (λ (ps : List PackageParts). All (Contains ps) (flat_map file_entry_packages (map item_view c.deref-3.result.now))) (c.as_slice.ensures ∙ ap (λ (r : Resolve). r.packages) c.table.ensures) c.in_ok-known_packages.ensures.ok) in
    rw (p.1, p.2) (refuses-unknown (imports_of c.args.imports.now.table) f (map declared_tree c.deref-5.result.now) e same (has-entries item_view items some) distinct there
    (subst (λ (is : List Item). RefusesUnknown (imports_of c.args.imports.now.table) (map declared_tree c.deref-5.result.now) (filter_map world_of (map item_view is)) e) c.deref-6.ensures.value c.in_err-known_names.ensures.err))

pub returns-clause-ok : goal.returns-clause-ok
returns-clause-ok c = c.in_ok-all.ensures ∙ ap (λ (is : List Item). filter_map interface_of (map item_view is)) c.deref-4.ensures.value

pub returns-clause-faults : goal.returns-clause-faults
returns-clause-faults c =
    let f = file_view c.args.ast.now in
    let items = c.args.ast.now.items.items in
    let some : 0 < length items = grind (arith, nat_tests, c.is_empty.ensures, c.if-is_empty.false) in
    let same : map declared_tree c.deref-5.result.now ≡ interfaces f = ap (map declared_tree) c.deref-5.ensures.value ∙ c.in_ok-all.ensures
    ∙ ap (λ (is : List Item). filter_map interface_of (map item_view is)) c.deref-4.ensures.value in
    let there : filter_map world_of (map item_view c.deref-6.result.now) ≡ file_worlds f = ap (λ (is : List Item). filter_map world_of (map item_view is)) c.deref-6.ensures.value in
    record {
      some = has-entries item_view items some;
      distinct = subst (λ (is : List Item). All AreDistinct (scopes_in (package_named f) (map item_view is))) c.deref-2.ensures.value
          (subst (λ (q : PackageParts). All AreDistinct (scopes_in q (map item_view c.deref-2.result.now))) c.in_ok-package.ensures c.in_ok-distinct_names.ensures.ok);
      packages = subst (λ (is : List Item). All (Contains c.args.imports.now.table.packages) (flat_map file_entry_packages (map item_view is))) c.deref-3.ensures.value (subst (λ (ps : List PackageParts). All (Contains ps) (flat_map file_entry_packages (map item_view c.deref-3.result.now))) (c.as_slice.ensures ∙ ap (λ (r : Resolve). r.packages) c.table.ensures) c.in_ok-known_packages.ensures.ok);
      known = record {
        in_interfaces = subst (λ (is : List InterfaceTree). All (HasKnownNamesOf (imports_of c.args.imports.now.table) is) is) same c.in_ok-known_names.ensures.ok;
        in_worlds = subst (λ (is : List InterfaceTree). All (IsKnownWorldOf (imports_of c.args.imports.now.table) (names_of_trees is)) (file_worlds f)) same
            (subst (λ (ws : List WorldTree). All (IsKnownWorldOf (imports_of c.args.imports.now.table) (names_of_trees (map declared_tree c.deref-5.result.now))) ws) there c.in_ok-known_names.ensures.worlds);
      };
    }

pub returns-clause-labels : goal.returns-clause-labels
returns-clause-labels c =
    let f = file_view c.args.ast.now in
    let same : map declared_tree c.deref-5.result.now ≡ interfaces f = ap (map declared_tree) c.deref-5.ensures.value ∙ c.in_ok-all.ensures
    ∙ ap (λ (is : List Item). filter_map interface_of (map item_view is)) c.deref-4.ensures.value in
    subst (λ (is : List InterfaceTree). All IsLabel (names_of_trees is)) same c.in_ok-known_names.ensures.labels

pub returns-clause-fits : goal.returns-clause-fits
returns-clause-fits c =
    ap (λ (is : List Item). list_all interface_fits (map item_view is)) (sym c.deref.ensures.value) ∙ sym c.are_nested.ensures ∙ c.if-not-are_nested.false
