use Rattle.std.proofs.Common.{◌≡◌, ◌∙◌, List, [], ℕ, All, get_or, ap, sym, subst, arith}
use Rattle.std.proofs.lemmas.List.{get_or_default}
use Rattle.placement.specs.Order.{IsPlacement}
use Rattle.tree_meaning.specs.Declarations.{InterfaceTree, interface_tree_name}
use Rattle.tree_meaning.specs.Imports.{interfaces_of, imports_of}
use Rattle.tree_meaning.specs.Resolves.{type_uses, HasKnownNamesOf}
use Rattle.tree_scopes.specs.Sources.{declared_tree}
use Rattle.tree_rows.specs.Defining.{CanUse}
use Rattle.tree_rows.specs.Planning.{planned_trees}
use Rattle.tree_scopes.specs.KnownScopes.{IsScope, ArePlaced, AreImportScopes}
use Rattle.tree_meaning.specs.Building.{label_at}
use Rattle.tree_scopes.specs.declared.known.KnownTypes.{KnownTypes}
use Rattle.tree_scopes.specs.declared.declared.Declarations.{Declarations}
use Rattle.tree_rows.proofs.PlansTellTheirTrees.{below, declares, known, distinct}
use Rattle.tree_rows.proofs.InterfacesInPackageOrder.{none-defined, name-here, can-use-all, one-more, defines-package}
use Rattle.tree_rows.proofs.assembly.define_package.Goals as goal

pub loop-place-init : goal.loop-place-init
loop-place-init c =
    let p = c.args.plan.now in
    none-defined p.imports.now (planned_trees p) p.order.now p.types.now p.names.now c.args.builder.now c.reserve_exact.new.self.items c.requires.starts
    (subst (AreImportScopes p.imports.now) (sym c.reserve_exact.ensures.items) c.requires.scopes)

pub bounds-plan-index : goal.bounds-plan-index
bounds-plan-index c = omega (arith, below c.args.plan.now c.requires.plan c.loop-place.place (omega arith), c.requires.plan.count)

pub offset_bounds-plan-index : goal.offset_bounds-plan-index
offset_bounds-plan-index c = omega (arith, below c.args.plan.now c.requires.plan c.loop-place.place (omega arith), c.requires.plan.count)

pub bounds-plan-index-in-loop-place : goal.bounds-plan-index-in-loop-place
bounds-plan-index-in-loop-place c = below c.args.plan.now c.requires.plan c.loop-place.place (omega arith)

pub define_interface-requires-clause-named : goal.define_interface-requires-clause-named
define_interface-requires-clause-named c =
    let p = c.args.plan.now in
    let h = c.requires.plan in
    let k = c.loop-place.place in
    let n = name-here p.imports.now (planned_trees p) p.order.now p.types.now c.args.builder.now c.loop-place.builder c.loop-place.scopes.items k p.names.now
    c.requires.starts h.names h.placed (distinct p h) h.imports.apart c.loop-place.invariant (omega arith) k (omega arith) in
    ap (label_at c.loop-place.builder) (c.in_ok-id.ensures.ok ∙ c.in_ok-place_behind.ensures.ok) ∙ n ∙ ap interface_tree_name (declares p h k c.index-plan-index-in-loop-place.result (omega arith))

pub define_interface-requires-clause-others : goal.define_interface-requires-clause-others
define_interface-requires-clause-others c =
    subst (λ (ss : List KnownTypes). All (IsScope c.loop-place.builder) ss) (sym c.deref.ensures.value) c.loop-place.invariant.scoped

pub define_interface-requires-clause-ids : goal.define_interface-requires-clause-ids
define_interface-requires-clause-ids c = subst ArePlaced (sym c.deref.ensures.value) c.loop-place.invariant.ids

pub define_interface-requires-clause-uses : goal.define_interface-requires-clause-uses
define_interface-requires-clause-uses c =
    let p = c.args.plan.now in
    let h = c.requires.plan in
    let k = c.loop-place.place in
    let x = c.index-plan-index-in-loop-place.result in
    let ks = interfaces_of p.imports.now in
    let can = can-use-all p.imports.now (planned_trees p) p.order.now p.types.now c.args.builder.now c.loop-place.builder c.loop-place.scopes.items k p.names.now
    c.requires.starts h.names h.placed (distinct p h) h.imports.apart c.loop-place.invariant (omega arith) (known p h k (omega arith)) in
    subst (λ (ss : List KnownTypes). All (CanUse ks p.names.now c.loop-place.builder ss) (declared_tree (get_or p.all.now (get_or p.order.now k 0) x)).uses) (sym c.deref.ensures.value)
    (subst (λ (i : InterfaceTree). All (CanUse ks p.names.now c.loop-place.builder c.loop-place.scopes.items) i.uses) (declares p h k x (omega arith)) can)

pub define_interface-requires-clause-placed : goal.define_interface-requires-clause-placed
define_interface-requires-clause-placed c =
    let p = c.args.plan.now in
    let h = c.requires.plan in
    let k = c.loop-place.place in
    let j = get_or p.order.now k 0 in
    let x = c.index-plan-index-in-loop-place.result in
    let l = below p h k (omega arith) in
    let types : c.as_slice-types.result.now ≡ get_or p.types.now j [] = c.as_slice-types.ensures ∙ get_or_default p.types.now j _ _ (omega (arith, l, h.count)) in
    subst (λ (o : List ℕ). IsPlacement (type_uses (declared_tree (get_or p.all.now j x))) o) (sym types)
    (subst (λ (i : InterfaceTree). IsPlacement (type_uses i) (get_or p.types.now j [])) (declares p h k x (omega arith)) (h.types j l))

pub define_interface-requires-clause-types : goal.define_interface-requires-clause-types
define_interface-requires-clause-types c =
    let p = c.args.plan.now in
    let tree = declares p c.requires.plan c.loop-place.place c.index-plan-index-in-loop-place.result (omega arith) in
    (subst (HasKnownNamesOf (imports_of p.imports.now) (planned_trees p)) tree (known p c.requires.plan c.loop-place.place (omega arith))).types

pub define_interface-requires-clause-functions : goal.define_interface-requires-clause-functions
define_interface-requires-clause-functions c =
    let p = c.args.plan.now in
    let tree = declares p c.requires.plan c.loop-place.place c.index-plan-index-in-loop-place.result (omega arith) in
    (subst (HasKnownNamesOf (imports_of p.imports.now) (planned_trees p)) tree (known p c.requires.plan c.loop-place.place (omega arith))).functions

pub loop-place-preserved : goal.loop-place-preserved
loop-place-preserved c =
    let p = c.args.plan.now in
    let h = c.requires.plan in
    let k = c.loop-place.place in
    let j = get_or p.order.now k 0 in
    let d : Declarations = get_or p.all.now j c.index-plan-index-in-loop-place.result in
    let l = below p h k (omega arith) in
    let tree = declares p h k c.index-plan-index-in-loop-place.result (omega arith) in
    let types : c.as_slice-types.result.now ≡ get_or p.types.now j [] = c.as_slice-types.ensures ∙ get_or_default p.types.now j _ _ (omega (arith, l, h.count)) in
    let placed = subst (λ (o : List ℕ). IsPlacement (type_uses (declared_tree d)) o) (sym types) (subst (λ (i : InterfaceTree). IsPlacement (type_uses i) (get_or p.types.now j [])) tree (h.types j l)) in
    one-more p.imports.now (planned_trees p) p.order.now p.types.now c.args.builder.now c.loop-place.builder c.loop-place.scopes.items k p.names.now
    c.requires.starts h.names h.placed (distinct p h) h.imports.apart c.loop-place.invariant (omega arith) c.define_interface.new.builder c.in_ok-scope.scope c.in_ok-id.id (declared_tree d)
    c.as_slice-types.result.now c.push.new.self.items (c.in_ok-id.ensures.ok ∙ c.in_ok-place_behind.ensures.ok) (sym tree) types placed c.in_ok-push.ensures.items c.in_ok-scope.ensures

pub returns : goal.returns
returns c =
    let p = c.args.plan.now in
    defines-package p.imports.now (planned_trees p) p.order.now p.types.now c.args.builder.now c.loop-place.builder c.loop-place.scopes.items c.loop-place.place p.names.now c.requires.starts (omega arith)
    c.loop-place.invariant
