-- What a plan tells of its tree.
use Rattle.std.proofs.Common.{◌≡◌, ◌∙◌, ◌<◌, ℕ, List, [], All, length, get_or, ap, sym, subst, arith}
use Rattle.std.proofs.lemmas.List.{length-map, get_or_default}
use Rattle.placement.specs.Order.{IsPlacement}
use Rattle.package_form.specs.Scope.{AreDistinct}
use Rattle.tree_meaning.specs.Declarations.{InterfaceTree, interfaces, file_worlds, interface_at, names_of_trees, no_interface}
use Rattle.tree_meaning.specs.Imports.{imports_of}
use Rattle.tree_meaning.specs.Resolves.{interface_uses, type_uses, names_in_order, HasKnownNamesOf, IsKnownWorldOf}
use Rattle.tree_scopes.specs.Sources.{declared_tree}
use Rattle.tree_scopes.specs.declared.declared.Declarations.{Declarations}
use Rattle.tree_scopes.proofs.DeclaredTrees.{order-below, tree-at}
use Rattle.tree_meaning.proofs.tree_forms.FinishedTrees.{distinct-interfaces}
use Rattle.tree_meaning.proofs.tree_forms.WorldTables.{worlds-known}
use Rattle.tree_rows.specs.Planning.{IsPlan, imported, planned_file, planned_trees}
use Rattle.tree_rows.specs.declared.plan.Plan.{Plan}

module _ (p : Plan) (h : IsPlan p) where
  -- the interface that is defined behind k others
  pub below : (k : ℕ) → k < length p.order.now → get_or p.order.now k 0 < length p.all.now
  below k l = order-below p.all.now p.order.now h.placed k 0 l

  pub declares : (k : ℕ) (x : Declarations) → k < length p.order.now → interface_at (planned_trees p) (get_or p.order.now k 0) ≡ declared_tree (get_or p.all.now (get_or p.order.now k 0) x)
  declares k x l =
      let j = get_or p.order.now k 0 in
      let d : Declarations = get_or p.all.now j x in
      tree-at p.all.now j d (below k l) (get_or_default p.all.now j x d (below k l))

  pub known : (k : ℕ) → k < length p.order.now → HasKnownNamesOf (imports_of (imported p)) (planned_trees p) (interface_at (planned_trees p) (get_or p.order.now k 0))
  known k l =
      let all = subst (λ (is : List InterfaceTree). All (HasKnownNamesOf (imports_of (imported p)) is) is) (sym h.declared) h.faults.known.in_interfaces in
      all (get_or p.order.now k 0) no_interface (omega (arith, below k l, length-map p.all.now declared_tree))

  pub distinct : AreDistinct (names_of_trees (planned_trees p))
  distinct = subst (λ (is : List InterfaceTree). AreDistinct (names_of_trees is)) (sym h.declared) (distinct-interfaces (planned_file p) h.faults)

  pub known-worlds : All (IsKnownWorldOf (imports_of (imported p)) p.names.now) (file_worlds (planned_file p))
  known-worlds =
      worlds-known (imports_of (imported p)) (planned_trees p) p.order.now p.names.now (file_worlds (planned_file p)) h.names h.placed
      (subst (λ (is : List InterfaceTree). All (IsKnownWorldOf (imports_of (imported p)) (names_of_trees is)) (file_worlds (planned_file p))) (sym h.declared) h.faults.known.in_worlds)

  pub placed : IsPlacement (interface_uses (interfaces (planned_file p))) p.order.now
  placed = subst (λ (is : List InterfaceTree). IsPlacement (interface_uses is) p.order.now) h.declared h.placed

  pub types-placed : (k : ℕ) → k < length (interfaces (planned_file p)) → IsPlacement (type_uses (interface_at (interfaces (planned_file p)) k)) (get_or p.types.now k [])
  types-placed k l =
      subst (λ (is : List InterfaceTree). IsPlacement (type_uses (interface_at is k)) (get_or p.types.now k [])) h.declared
      (h.types k (omega (arith, l, ap length h.declared, length-map p.all.now declared_tree)))

  pub ordered : p.names.now ≡ names_in_order (interfaces (planned_file p)) p.order.now
  ordered = h.names ∙ ap (λ (is : List InterfaceTree). names_in_order is p.order.now) h.declared
