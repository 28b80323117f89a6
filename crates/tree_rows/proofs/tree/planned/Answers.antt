use Rattle.std.proofs.Common.{◌∙◌, List, All, map, length, refl, sym, subst}
use Rattle.std.specs.List.{filter_map}
use Rattle.wit_tokens.specs.View.{item_view}
use Rattle.wit_tokens.specs.declared.wit_syntax.ast.Item.{Item}
use Rattle.tree_meaning.specs.Declarations.{InterfaceTree, world_of, package_named}
use Rattle.tree_meaning.specs.Imports.{imports_of}
use Rattle.tree_meaning.specs.Resolved.{meaning_of_world}
use Rattle.tree_meaning.specs.Resolves.{IsKnownWorldOf}
use Rattle.tree_meaning.specs.Building.{DefinesPackage, start_table}
use Rattle.tree_meaning.specs.WorldRows.{DefinesWorlds}
use Rattle.tree_meaning.proofs.PackageOfAFile.{ok-map, err-map}
use Rattle.tree_meaning.proofs.tree_forms.ClosedTableOrLimit.{finished, refused}
use Rattle.tree_rows.specs.Planning.{imported, planned_file}
use Rattle.tree_rows.proofs.PlansTellTheirTrees.{known-worlds, placed, types-placed, ordered}
use Rattle.tree_rows.proofs.tree.planned.Goals as goal

pub define_worlds-requires-clause-known : goal.define_worlds-requires-clause-known
define_worlds-requires-clause-known c =
    let p = c.args.plan.now in
    subst (λ (xs : List Item). All (IsKnownWorldOf (imports_of (imported p)) p.names.now) (filter_map world_of (map item_view xs))) (sym c.deref.ensures.value) (known-worlds p c.requires.plan)

pub returns-clause-ok : goal.returns-clause-ok
returns-clause-ok c =
    let p = c.args.plan.now in
    let h = c.requires.plan in
    let old = c.define_package.new.builder in
    let new = c.define_worlds.new.builder in
    let ws = c.in_ok-worlds.worlds.items in
    let made = subst (λ (is : List InterfaceTree). DefinesPackage (start_table (imported p) p.names.now) is p.order.now p.types.now old) h.declared c.in_ok-define_package.ensures in
    let worlds_made = subst (λ (xs : List Item). DefinesWorlds old new (length (imported p).packages) ws (map meaning_of_world (filter_map world_of (map item_view xs)))) c.deref.ensures.value c.in_ok-worlds.ensures in
    ok-map c.finish.result _ _ (λ r f. finished (imported p) h.imports (planned_file p) p.order.now p.types.now p.names.now p.labels.now old new ws _ (placed p h) (types-placed p h) (ordered p h)
    (h.labels ∙ sym h.names) made h.labelled h.faults worlds_made refl r f) c.finish.ensures.ok

pub returns-clause-err : goal.returns-clause-err
returns-clause-err c =
    let p = c.args.plan.now in
    let h = c.requires.plan in
    let old = c.define_package.new.builder in
    let new = c.define_worlds.new.builder in
    let ws = c.in_ok-worlds.worlds.items in
    let made = subst (λ (is : List InterfaceTree). DefinesPackage (start_table (imported p) p.names.now) is p.order.now p.types.now old) h.declared c.in_ok-define_package.ensures in
    let worlds_made = subst (λ (xs : List Item). DefinesWorlds old new (length (imported p).packages) ws (map meaning_of_world (filter_map world_of (map item_view xs)))) c.deref.ensures.value c.in_ok-worlds.ensures in
    err-map c.finish.result _ _ (λ e f. refused (imported p) h.imports (planned_file p) p.order.now p.types.now p.names.now p.labels.now old new ws (package_named (planned_file p)) (placed p h) (types-placed p h) (ordered p h)
    (h.labels ∙ sym h.names) made h.labelled h.faults worlds_made refl e f) c.finish.ensures.err
