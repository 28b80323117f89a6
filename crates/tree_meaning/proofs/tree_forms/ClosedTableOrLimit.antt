-- The closed table of a tree, and its refusals for a limit.
use Rattle.std.proofs.Common.{◌≡◌, ◌⊎◌, ◌<◌, inl, inr, ℕ, List, [], map, length, get_or, subst, All}
use Rattle.atoms.specs.Label.{IsLabel}
use Rattle.wit_tokens.specs.Syntax.{File}
use Rattle.tables.specs.PackageNames.{PackageParts}
use Rattle.tables.specs.declared.error.ResolveError.{ResolveError}
use Rattle.tables.specs.declared.error.ResolveError.TheVariants as error
use Rattle.tables.specs.declared.tables.World.{World}
use Rattle.tables.specs.declared.tables.Resolve.{Resolve}
use Rattle.package_form.specs.Entries.{Table}
use Rattle.placement.specs.Order.{IsPlacement}
use Rattle.tree_meaning.specs.Declarations.{interfaces, file_worlds, package_named, interface_at, names_of_trees}
use Rattle.tree_meaning.specs.Imports.{imports_of}
use Rattle.tree_meaning.specs.Resolved.{meaning_of_world}
use Rattle.tree_meaning.specs.Resolves.{interface_uses, type_uses, names_in_order, HasNoFaultsOf, PassesLimit, AreImports, IsClosedPackageOf, ResolveRefusesOf}
use Rattle.tree_meaning.specs.Building.{DefinesPackage, start_table}
use Rattle.tree_meaning.specs.Finished.{IsFinished}
use Rattle.tree_meaning.specs.WorldRows.{with_worlds, DefinesWorlds}
use Rattle.tree_meaning.proofs.tree_forms.FinishedTrees.{refuses-limit, is-package}
use Rattle.tree_meaning.proofs.tree_forms.WorldTables.{interfaces-are, rows-are, is-table}

module _ (imports : Resolve) (a : AreImports imports) (f : File) (order : List ℕ) (orders : List (List ℕ)) (names labels : List (List ℕ)) (old new : Table) (ws : List World) (p : PackageParts)
    (placed : IsPlacement (interface_uses (interfaces f)) order)
    (types : (k : ℕ) → k < length (interfaces f) → IsPlacement (type_uses (interface_at (interfaces f) k)) (get_or orders k [])) (ordered : names ≡ names_in_order (interfaces f) order) (same : labels ≡ names)
    (made : DefinesPackage (start_table imports names) (interfaces f) order orders old) (labelled : All IsLabel (names_of_trees (interfaces f))) (faults : HasNoFaultsOf (imports_of imports) f)
    (d : DefinesWorlds old new (length imports.packages) ws (map meaning_of_world (file_worlds f))) (named : p ≡ package_named f) where
  pub finished : (r : Resolve) → IsFinished imports p labels (with_worlds new ws) r → IsClosedPackageOf imports f r
  finished r h =
      is-package imports p names (with_worlds new ws) r (subst (λ (ns : List (List ℕ)). IsFinished imports p ns (with_worlds new ws) r) same h) f faults.packages named
      (interfaces-are imports a f order orders names old new ws placed types ordered made labelled faults.known d)
      (rows-are imports a f order orders names old new ws placed types ordered made labelled faults.known d)
      (is-table imports a f order orders names old new ws placed types ordered made labelled faults.known d) d.stand

  pub refused : (e : ResolveError) → (e ≡ error.NoMemory) ⊎ ((e ≡ error.Limit) × PassesLimit (with_worlds new ws)) → ResolveRefusesOf (imports_of imports) f e
  refused e h =
      let t = is-table imports a f order orders names old new ws placed types ordered made labelled faults.known d in
      let is = interfaces-are imports a f order orders names old new ws placed types ordered made labelled faults.known d in
      elim h [
        | inl q ↦ refuses-limit (imports_of imports) f _ e t faults (inl q)
        | inr q ↦ refuses-limit (imports_of imports) f _ e t faults (inr (q.0, subst (λ (ns : List (List ℕ)). PassesLimit (record { interfaces = ns; worlds = ws; rows = new.rows })) is q.1))
      ]
