-- The scopes of a package, each of which has different names.
use Rattle.std.proofs.Common.{◌≡◌, ℕ, ◌+◌, ◌<◌, true, List, [], ◌∷◌, ◌++◌, map, flat_map, length, take, get_or, ap, sym, subst, ◌∙◌, All, Contains, inl, inr, Result, Ok, Err, OnOk, IfErr}
use Rattle.tables.specs.Tables.{is_placed_world, are_placed_worlds}
use Rattle.tables.specs.declared.error.ResolveError.{ResolveError}
use Rattle.tables.specs.declared.tables.Definition.{Definition}
use Rattle.tables.specs.declared.tables.World.{World}
use Rattle.tables.proofs.ClosedTypesRowByRow.{split}
use Rattle.package_form.specs.Distinct.{AreMetInEach, RefusesScopes}
use Rattle.package_form.proofs.NamesMetOneByOne.{refuses-among, part-contained}
use Rattle.tables.specs.Package.{WorldMeaning, worlds}
use Rattle.tables.specs.declared.tables.Resolve.{Resolve}
use Rattle.package_form.specs.Scope.{AreDistinct}
use Rattle.package_form.specs.Naming.{interface_labels_of, world_labels_of, of_each, interfaces_scopes, world_scopes, package_scopes}
use Rattle.package_form.proofs.NamesMetInEachPackage.{distinct-each}
use Rattle.tables.specs.PackageNames.{PackageParts}
use Rattle.package_form.proofs.AllAndContains.{flat_map-append, flat_map-one, map-more, all-append, all-left, all-right, contains-left, contains-right, contains-either}
use Rattle.package_form.proofs.NamesStandForOneRow.{distinct-front}

module _ (r : Resolve) (distinct : All AreDistinct (package_scopes r)) where
  abbrev labels : List (List (List ℕ))
  labels = of_each (λ k. interface_labels_of r.interfaces k ++ world_labels_of r.worlds k) 0 r.packages

  inside : All AreDistinct (interfaces_scopes r.definitions 0 r.interfaces ++ flat_map world_scopes (worlds r))
  inside = all-right AreDistinct labels (interfaces_scopes r.definitions 0 r.interfaces ++ flat_map world_scopes (worlds r)) distinct

  -- those of its interfaces
  pub interfaces-distinct : All AreDistinct (interfaces_scopes r.definitions 0 r.interfaces)
  interfaces-distinct = all-left AreDistinct (interfaces_scopes r.definitions 0 r.interfaces) (flat_map world_scopes (worlds r)) inside

  -- those of its worlds
  pub worlds-distinct : All AreDistinct (flat_map world_scopes (worlds r))
  worlds-distinct = all-right AreDistinct (interfaces_scopes r.definitions 0 r.interfaces) (flat_map world_scopes (worlds r)) inside

  -- the names of the interfaces and the worlds of a package
  pub labels-distinct : (k : ℕ) → k < length r.packages → AreDistinct (interface_labels_of r.interfaces k ++ world_labels_of r.worlds k)
  labels-distinct =
      distinct-each (λ k. interface_labels_of r.interfaces k ++ world_labels_of r.worlds k) r.packages
      (all-left AreDistinct labels (interfaces_scopes r.definitions 0 r.interfaces ++ flat_map world_scopes (worlds r)) distinct)

  -- the names of the interfaces of a package
  pub names-distinct : (k : ℕ) → k < length r.packages → AreDistinct (interface_labels_of r.interfaces k)
  names-distinct k l = distinct-front (interface_labels_of r.interfaces k) (world_labels_of r.worlds k) (labels-distinct k l)

-- ---- one world after the other

module _ (g : World → WorldMeaning) (ws : List World) (k : ℕ) (w : World) (l : k < length ws) (is : w ≡ get_or ws k w) where
  pub refuses-world-scopes : (labels : List (List (List ℕ))) (e : ResolveError) → RefusesScopes (world_scopes (g w)) e → RefusesScopes (labels ++ flat_map world_scopes (map g ws)) e
  refuses-world-scopes labels e h =
      refuses-among (world_scopes (g w)) (labels ++ flat_map world_scopes (map g ws)) e
      (λ ns c. contains-right labels (flat_map world_scopes (map g ws)) ns (part-contained world_scopes g ws k w l is ns c)) h

  pub world-scopes-more : All AreDistinct (flat_map world_scopes (map g (take k ws))) → All AreDistinct (world_scopes (g w)) → All AreDistinct (flat_map world_scopes (map g (take (k + 1) ws)))
  world-scopes-more h p =
      subst (λ (ms : List WorldMeaning). All AreDistinct (flat_map world_scopes ms)) (sym (map-more g ws k w l is))
      (subst (λ (ss : List (List (List ℕ))). All AreDistinct ss)
      (sym (flat_map-append world_scopes (map g (take k ws)) (g w ∷ []) ∙ ap (λ (ss : List (List (List ℕ))). flat_map world_scopes (map g (take k ws)) ++ ss) (flat_map-one world_scopes (g w))))
      (all-append AreDistinct (flat_map world_scopes (map g (take k ws))) (world_scopes (g w)) h p))

-- the worlds' place is that of the loop
pub world-placed : (rows : List Definition) (count n : ℕ) (w : World) (ws : List World) → are_placed_worlds rows count n (w ∷ ws) ≡ true → is_placed_world rows count n w ≡ true
world-placed rows count n w ws h = (split (is_placed_world rows count n w) (are_placed_worlds rows count (n + 1) ws) h).0

pub worlds-placed-on : (rows : List Definition) (count n : ℕ) (w : World) (ws : List World) → are_placed_worlds rows count n (w ∷ ws) ≡ true → are_placed_worlds rows count (n + 1) ws ≡ true
worlds-placed-on rows count n w ws h = (split (is_placed_world rows count n w) (are_placed_worlds rows count (n + 1) ws) h).1

-- ---- all names of a package

module _ (labels parts rest : List (List (List ℕ))) where
  pub refuses-last : (e : ResolveError) → RefusesScopes (labels ++ rest) e → RefusesScopes (labels ++ (parts ++ rest)) e
  refuses-last e h = refuses-among (labels ++ rest) (labels ++ (parts ++ rest)) e among h
    where
      among : (ns : List (List ℕ)) → Contains (labels ++ rest) ns → Contains (labels ++ (parts ++ rest)) ns
      among ns c = elim (contains-either labels rest ns c) [
        | inl h ↦ contains-left labels (parts ++ rest) ns h
        | inr h ↦ contains-right labels (parts ++ rest) ns (contains-right parts rest ns h)
      ]

module _ {T : Type 0} (r : Result T ResolveError) (f g : ℕ → List (List ℕ)) (ps : List PackageParts) (parts rest met : List (List (List ℕ))) (m : AreMetInEach (length ps) f met) where
  pub all-met : All AreDistinct parts
      → OnOk r ((names : ℕ → List (List ℕ)) → AreMetInEach (length ps) names met → All AreDistinct (of_each (λ k. names k ++ g k) 0 ps)) → OnOk r (All AreDistinct rest)
      → OnOk r (All AreDistinct (of_each (λ k. f k ++ g k) 0 ps ++ (parts ++ rest)))
  all-met = by r
    where
      by : (r : Result T ResolveError) → All AreDistinct parts
          → OnOk r ((names : ℕ → List (List ℕ)) → AreMetInEach (length ps) names met → All AreDistinct (of_each (λ k. names k ++ g k) 0 ps)) → OnOk r (All AreDistinct rest)
          → OnOk r (All AreDistinct (of_each (λ k. f k ++ g k) 0 ps ++ (parts ++ rest)))
      by (Ok x) p h q = all-append AreDistinct (of_each (λ k. f k ++ g k) 0 ps) (parts ++ rest) (h f m) (all-append AreDistinct parts rest p q)
      by (Err e) p h q = tt

  pub all-refused : IfErr r (λ e. (names : ℕ → List (List ℕ)) → AreMetInEach (length ps) names met → RefusesScopes (of_each (λ k. names k ++ g k) 0 ps ++ rest) e)
      → IfErr r (RefusesScopes (of_each (λ k. f k ++ g k) 0 ps ++ (parts ++ rest)))
  all-refused = by r
    where
      by : (r : Result T ResolveError) → IfErr r (λ e. (names : ℕ → List (List ℕ)) → AreMetInEach (length ps) names met → RefusesScopes (of_each (λ k. names k ++ g k) 0 ps ++ rest) e)
          → IfErr r (RefusesScopes (of_each (λ k. f k ++ g k) 0 ps ++ (parts ++ rest)))
      by (Ok x) h = tt
      by (Err e) h = refuses-last (of_each (λ k. f k ++ g k) 0 ps) parts rest e (h f m)
