-- The names of what is kept of a set differ in each scope.
use Rattle.std.proofs.Common.{◌≡◌, ◌<◌, inl, inr, ℕ, ◌+◌, Bool, true, false, ◌++◌, List, [], ◌∷◌, length, map, flat_map, get_or, slice_get, Some, All, ap, sym, subst, ◌∙◌, arith}
use Rattle.std.proofs.lemmas.List.{map-append}
use Rattle.std.proofs.lemmas.Option.{slice_get_within, get_or_from_slice_get}
use Rattle.std.proofs.lemmas.List.Elements.{Contains-append_left, Contains-append_right}
use Rattle.package_form.specs.Scope.{AreDistinct}
use Rattle.package_form.specs.Naming.{interface_label_of, world_label_of, interface_labels_of, world_labels_of, interfaces_scopes, world_scopes, of_each, package_scopes}
use Rattle.package_form.specs.Form.{ids_of}
use Rattle.package_form.specs.Postfix.{IsPostfix}
use Rattle.package_form.proofs.NamesMetInEachPackage.{each-distinct}
use Rattle.package_form.proofs.AllAndContains.{all-append, all-left, all-right, all-none, compared, contains-map}
use Rattle.package_form.proofs.FullNamesStandForInterfaces.{package-there}
use Rattle.tables.specs.Package.{WorldMeaning, worlds}
use Rattle.tables.specs.PackageNames.{PackageParts}
use Rattle.tables.specs.declared.tables.TypeId.{TypeId}
use Rattle.tables.specs.declared.tables.FunctionId.{FunctionId}
use Rattle.tables.specs.declared.tables.Definition.{Definition}
use Rattle.tables.specs.declared.tables.Interface.{Interface}
use Rattle.tables.specs.declared.tables.World.{World}
use Rattle.tables.specs.declared.tables.Resolve.{Resolve}
use Rattle.set_rows.specs.Places.{place}
use Rattle.set_rows.specs.Renamed.{renaming}
use Rattle.set_rows.specs.Moved.{put_id, put_function_id, put_row, put_interface, has_type, has_function, put_types, put_functions, put_world}
use Rattle.package_sets.specs.Part.{IsPart, IsTableOf}
use Rattle.package_sets.specs.Set.{IsSet, HasRowsInForm}
use Rattle.package_sets.specs.SetScopes.{set_interface_scopes, HasDistinctScopes}
use Rattle.set_rows.specs.declared.moved.Moved.{Moved}
use Rattle.package_sets.proofs.GrowingLists.{map-get, map-unget}
use Rattle.set_rows.proofs.KeptElementsAndPlaces.{kept-at, place-before}
use Rattle.package_sets.proofs.KeptParts.KeptIsPackageByPackage.{filter-all, all-from, list-ids, list-function-ids}
use Rattle.package_sets.proofs.DistinctNames.ScopesByRows.{all-by-rows}
use Rattle.package_sets.proofs.DistinctNames.ScopesOfSets.{scopes-put, placed-id, placed-in}
use Rattle.package_sets.proofs.DistinctNames.SomeOfDistinctNames.{IsWithin, distinct-none, within-distinct, within-append, names-within, label-within}
use Rattle.package_sets.proofs.KeptParts.PlacesOfKept.{was-kept}
use Rattle.package_sets.proofs.FoundImports.HasAllImports.{ids-kept}
use Rattle.std.specs.List.{items_where_true}

-- places of elements that are kept differ
place-one : (bs : List Bool) (k l : ℕ) → get_or bs k false ≡ true → get_or bs l false ≡ true → place bs k ≡ place bs l → k ≡ l
place-one bs k l a b e = elim (compared k l) [
  | inl q ↦ absurd (omega (arith, e, place-before bs k l q a))
  | inr q ↦ elim q [ inl p ↦ absurd (omega (arith, e, place-before bs l k p b)) | inr p ↦ p ]
]

-- what holds of all that elements tell holds of what those that are kept do
all-kept : {A B : Type 0} (P : B → Type 0) (f : A → List B) (bs : List Bool) (xs : List A) → All P (flat_map f xs) → All P (flat_map f (items_where_true bs xs))
all-kept P f [] xs h = all-none P
all-kept P f (b ∷ bs) [] h = all-none P
all-kept P f (true ∷ bs) (x ∷ xs) h = all-append P (f x) (flat_map f (items_where_true bs xs)) (all-left P (f x) (flat_map f xs) h) (all-kept P f bs xs (all-right P (f x) (flat_map f xs) h))
all-kept P f (false ∷ bs) (x ∷ xs) h = all-kept P f bs xs (all-right P (f x) (flat_map f xs) h)

module _ (s : Resolve) (to : Moved) (n : IsPart s to) (set : IsSet s) (r : Resolve) (t : IsTableOf s to r) (meanings : worlds r ≡ items_where_true to.worlds (worlds s)) (form : HasRowsInForm r) (postfix : IsPostfix r.definitions) (old : HasDistinctScopes s) where
  -- the ids of an interface that is kept
  ids-there : (k : ℕ) (i : Interface) → slice_get s.interfaces k ≡ Some i → get_or to.interfaces k false ≡ true → ids_of (put_interface (renaming to) i) ≡ map (place to.rows) (ids_of i)
  ids-there k i e h =
      let us = map (λ (x : TypeId). x.0) i.uses in
      let ts = map (λ (x : TypeId). x.0) i.types in
      let fs = map (λ (x : FunctionId). x.0) i.functions in
      let kept-id = ids-kept s to n set k i e h in
      let a : map (λ (x : TypeId). x.0) (put_types (renaming to) i.uses) ≡ map (place to.rows) us =
      ap (λ (xs : List TypeId). map (λ (x : TypeId). x.0) (map (put_id (renaming to)) xs))
      (filter-all (has_type (renaming to)) i.uses (all-from (has_type (renaming to)) i.uses (λ x c. kept-id x.0 (Contains-append_left us (ts ++ fs) x.0 (contains-map (λ (y : TypeId). y.0) i.uses x c)))))
      ∙ list-ids to i.uses in
      let b : map (λ (x : TypeId). x.0) (put_types (renaming to) i.types) ≡ map (place to.rows) ts =
      ap (λ (xs : List TypeId). map (λ (x : TypeId). x.0) (map (put_id (renaming to)) xs))
      (filter-all (has_type (renaming to)) i.types (all-from (has_type (renaming to)) i.types (λ x c. kept-id x.0 (Contains-append_right us (ts ++ fs) x.0 (Contains-append_left ts fs x.0 (contains-map (λ (y : TypeId). y.0) i.types x c))))))
      ∙ list-ids to i.types in
      let d : map (λ (x : FunctionId). x.0) (put_functions (renaming to) i.functions) ≡ map (place to.rows) fs =
      ap (λ (xs : List FunctionId). map (λ (x : FunctionId). x.0) (map (put_function_id (renaming to)) xs))
      (filter-all (has_function (renaming to)) i.functions
      (all-from (has_function (renaming to)) i.functions (λ x c. kept-id x.0 (Contains-append_right us (ts ++ fs) x.0 (Contains-append_right ts fs x.0 (contains-map (λ (y : FunctionId). y.0) i.functions x c))))))
      ∙ list-function-ids to i.functions in
      ap (λ xs. xs ++ (map (λ (x : TypeId). x.0) (put_types (renaming to) i.types) ++ map (λ (x : FunctionId). x.0) (put_functions (renaming to) i.functions))) a
      ∙ (ap (λ xs. map (place to.rows) us ++ (xs ++ map (λ (x : FunctionId). x.0) (put_functions (renaming to) i.functions))) b
      ∙ (ap (λ xs. map (place to.rows) us ++ (map (place to.rows) ts ++ xs)) d ∙ (ap (λ xs. map (place to.rows) us ++ xs) (sym (map-append (place to.rows) ts fs)) ∙ sym (map-append (place to.rows) us (ts ++ fs)))))

  interface-distinct : (m : ℕ) (x : Interface) → slice_get r.interfaces m ≡ Some x → All AreDistinct (set_interface_scopes r.definitions x)
  interface-distinct m x e =
      let u = map-unget (put_interface (renaming to)) (items_where_true to.interfaces s.interfaces) m x (ap (λ (is : List Interface). slice_get is m) (sym t.interfaces) ∙ e) in
      let w = was-kept to.interfaces s.interfaces m u.0 u.1 in
      subst (λ (y : Interface). All AreDistinct (set_interface_scopes r.definitions y)) u.2
      (subst (λ (ss : List (List (List ℕ))). All AreDistinct ss)
      (sym (scopes-put s.definitions r.definitions (renaming to) u.0 (put_interface (renaming to) u.0) (ids-there w.from u.0 w.stood w.marked)
      (λ k c. let d = placed-id s.definitions u.0 k (placed-in s w.from u.0 w.stood) c in (
        d.0,
        d.1,
        ap (λ (ds : List Definition). slice_get ds (place to.rows k)) t.definitions
            ∙ map-get (put_row (renaming to)) (items_where_true to.rows s.definitions) (place to.rows k) d.0 (kept-at to.rows s.definitions k d.0 (ids-kept s to n set w.from u.0 w.stood w.marked k c) d.1),
      ))))
      (old.interfaces u.0 (w.from, slice_get_within s.interfaces w.from u.0 w.stood, get_or_from_slice_get s.interfaces w.from u.0 u.0 w.stood)))

  labels-distinct : (k : ℕ) → k < length r.packages → AreDistinct (interface_labels_of r.interfaces k ++ world_labels_of r.worlds k)
  labels-distinct k l =
      let at = package-there r.packages k l in
      let w = was-kept to.packages s.packages k at.0 (ap (λ (ps : List PackageParts). slice_get ps k) (sym t.packages) ∙ at.1) in
      let same : (m : ℕ) → get_or to.packages m false ≡ true → place to.packages m ≡ k → m ≡ w.from = λ m h f. place-one to.packages m w.from h w.marked (f ∙ sym w.is) in
      within-distinct (interface_labels_of r.interfaces k ++ world_labels_of r.worlds k) (interface_labels_of s.interfaces w.from ++ world_labels_of s.worlds w.from)
      (within-append (interface_labels_of r.interfaces k) (interface_labels_of s.interfaces w.from) (world_labels_of r.worlds k) (world_labels_of s.worlds w.from)
      (subst (λ (is : List Interface). IsWithin (interface_labels_of is k) (interface_labels_of s.interfaces w.from)) (sym t.interfaces)
      (names-within (put_interface (renaming to)) (interface_label_of k) (interface_label_of w.from) to.interfaces s.interfaces
      (λ m i h e. label-within (place to.packages i.«package».0) i.«package».0 w.from k i.name (same i.«package».0 (n.interfaces_needed m i h e)))))
      (subst (λ (ws : List World). IsWithin (world_labels_of ws k) (world_labels_of s.worlds w.from)) (sym t.worlds)
      (names-within (put_world (renaming to)) (world_label_of k) (world_label_of w.from) to.worlds s.worlds
      (λ m v h e. label-within (place to.packages v.«package».0) v.«package».0 w.from k v.name (same v.«package».0 (n.worlds_needed m v h e))))))
      (old.labels w.from (slice_get_within s.packages w.from at.0 w.stood))

  pub table-scopes : All AreDistinct (package_scopes r)
  table-scopes =
      let labels : ℕ → List (List ℕ) = λ k. interface_labels_of r.interfaces k ++ world_labels_of r.worlds k in
      all-append AreDistinct (of_each labels 0 r.packages) (interfaces_scopes r.definitions 0 r.interfaces ++ flat_map world_scopes (worlds r)) (each-distinct labels 0 r.packages (λ k l. each k l))
      (all-append AreDistinct (interfaces_scopes r.definitions 0 r.interfaces) (flat_map world_scopes (worlds r))
      (all-by-rows r.definitions r.worlds postfix distinct-none 0 0 r.interfaces form.interfaces form.parted interface-distinct)
      (subst (λ (ws : List WorldMeaning). All AreDistinct (flat_map world_scopes ws)) (sym meanings) (all-kept AreDistinct world_scopes to.worlds (worlds s) old.worlds)))
    where
      none-plus : (k : ℕ) → 0 + k ≡ k
      none-plus k = omega arith

      each : (k : ℕ) → k < length r.packages → AreDistinct (interface_labels_of r.interfaces (0 + k) ++ world_labels_of r.worlds (0 + k))
      each k l = subst (λ m. AreDistinct (interface_labels_of r.interfaces m ++ world_labels_of r.worlds m)) (sym (none-plus k)) (labels-distinct k l)
