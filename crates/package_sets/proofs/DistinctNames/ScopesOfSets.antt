-- The names of a set with a package more differ in each scope, and so do those of what is imported from a set.
use Rattle.std.proofs.Common.{◌≡◌, ◌<◌, ◌⊎◌, inl, inr, ℕ, ◌+◌, Bool, true, false, cond, ◌&&◌, ◌==◌, List, [], ◌∷◌, ◌++◌, map, flat_map, length, slice_get, Option, None, Some, Contains, All, refl, ap, sym, subst, ◌∙◌, arith, true≢false, eqb-true, eq-eqb, append-nil}
use Rattle.std.specs.List.{list_all}
use Rattle.std.specs.Option.{option_map}
use Rattle.std.proofs.lemmas.List.{length-append, length-take, take-append-drop, map-id}
use Rattle.std.proofs.lemmas.Option.{slice_get_within, slice_get-get_or, get_or_from_slice_get}
use Rattle.canonical_abi.proofs.Traces.TracesLeaveImages.{slice_get-drop, slice_get-take}
use Rattle.package_form.specs.Closed.{own_package, is_closed, is_world_of}
use Rattle.package_form.specs.Scope.{AreDistinct}
use Rattle.package_form.specs.Naming.{field_name, case_name, parameter_name, kind_members, row_names, row_members, name_if, interface_label_of, world_label_of, interface_labels_of, world_labels_of, world_scopes, package_scopes}
use Rattle.package_form.specs.Form.{ids_of}
use Rattle.package_form.proofs.AllAndContains.{all-append, all-none, contains-either, contains-unmap, contains-later, flat_map-append}
use Rattle.package_form.proofs.FullNamesStandForInterfaces.{own-worlds, some-package}
use Rattle.package_form.proofs.ScopesAreDistinct.{labels-distinct, interfaces-distinct, worlds-distinct}
use Rattle.tables.specs.Tables.{type_of, function_of, is_there as is_some_row, is_type_id, is_function_id, is_placed}
use Rattle.tables.specs.Names.{world_name}
use Rattle.tables.specs.Package.{WorldMeaning, worlds, world_meaning, interface_names, trees}
use Rattle.tables.specs.PackageNames.{PackageParts}
use Rattle.tables.proofs.ClosedTypesRowByRow.{split}
use Rattle.tables.proofs.NamesEarlierTypes.{grouped-at}
use Rattle.tables.specs.declared.tables.TypeId.{TypeId}
use Rattle.tables.specs.declared.tables.FunctionId.{FunctionId}
use Rattle.tables.specs.declared.tables.TypeDefKind.{TypeDefKind}
use Rattle.tables.specs.declared.tables.TypeDefKind.TheVariants as kind
use Rattle.tables.specs.declared.tables.TypeName.{TypeName}
use Rattle.tables.specs.declared.tables.Definition.{Definition}
use Rattle.tables.specs.declared.tables.Definition.TheVariants as row
use Rattle.tables.specs.declared.tables.Interface.{Interface}
use Rattle.tables.specs.declared.tables.World.{World}
use Rattle.tables.specs.declared.tables.Resolve.{Resolve}
use Rattle.set_rows.specs.Moved.{Renaming, put_kind, put_name, put_field, put_case, put_parameter, put_row, put_interface, put_world}
use Rattle.package_sets.specs.Set.{HasRowsInForm}
use Rattle.package_sets.specs.SetForm.{IsEmpty}
use Rattle.package_sets.specs.SetScopes.{names_if, members_if, names_at, members_at, set_interface_scopes, HasDistinctScopes}
use Rattle.package_sets.specs.Joining.{import_count, imports, own_interfaces}
use Rattle.package_sets.specs.Joined.{renaming_of, IsJoined}
use Rattle.package_sets.proofs.AttachedSets.PutBehind.{IsPut}
use Rattle.package_sets.specs.Joined.{JoinedPlaces}
use Rattle.package_sets.proofs.KeptParts.PropertiesOfKept.{list-at, worlds-grouped-at}
use Rattle.package_sets.proofs.GrowingLists.{front-get, contains-get}
use Rattle.package_sets.proofs.MovedRows.MovedRowsKeepMeaning.{in_place, row-stays}
use Rattle.package_sets.proofs.AttachedSets.OwnPartStandsBehind.{import-other, own-behind, rows-there, own-rows, row-there}
use Rattle.package_sets.proofs.AttachedSets.IsPackageByPackage.{ids-put}
use Rattle.package_sets.proofs.DistinctNames.ScopesByRows.{each-by-ids}

-- ---- rows that are put elsewhere have their names

map-as : {A B C : Type 0} (put : A → B) (f : B → C) (g : A → C) → ((x : A) → f (put x) ≡ g x) → (xs : List A) → map f (map put xs) ≡ map g xs
map-as put f g h [] = refl
map-as put f g h (x ∷ xs) = let e = h x in let r = map-as put f g h xs in cc

-- .. of lists of places
places-as : {C : Type 0} (to : ℕ → ℕ) (f g : ℕ → C) (xs : List ℕ) → ((x : ℕ) → Contains xs x → f (to x) ≡ g x) → map f (map to xs) ≡ map g xs
places-as to f g [] h = refl
places-as to f g (x ∷ xs) h = let e = h x (0, omega arith, refl) in let r = places-as to f g xs (λ y c. h y (contains-later x y xs c)) in cc

flat-as : (to : ℕ → ℕ) (f g : ℕ → List (List ℕ)) (xs : List ℕ) → ((x : ℕ) → Contains xs x → f (to x) ≡ g x) → flat_map f (map to xs) ≡ flat_map g xs
flat-as to f g [] h = refl
flat-as to f g (x ∷ xs) h = let e = h x (0, omega arith, refl) in let r = flat-as to f g xs (λ y c. h y (contains-later x y xs c)) in cc

name-put : (to : Renaming) (d : Definition) → row_names (put_row to d) ≡ row_names d
name-put to (row.Function f) = refl
name-put to (row.Type d) = by d.name
  where
    by : (n : Option TypeName) → name_if (option_map (put_name to) n) ≡ name_if n
    by None = refl
    by (Some n) = refl

members-put : (to : Renaming) (d : Definition) → row_members (put_row to d) ≡ row_members d
members-put to (row.Function f) = map-as (put_parameter to) parameter_name parameter_name (λ p. refl) f.params
members-put to (row.Type d) = by d.kind
  where
    by : (k : TypeDefKind) → kind_members (put_kind to k) ≡ kind_members k
    by (kind.Use t) = refl
    by (kind.Alias v) = refl
    by (kind.List v) = refl
    by (kind.Option v) = refl
    by (kind.Result ok error) = refl
    by (kind.Tuple vs) = refl
    by (kind.Record fs) = map-as (put_field to) field_name field_name (λ f. refl) fs
    by (kind.Variant cs) = map-as (put_case to) case_name case_name (λ c. refl) cs
    by (kind.Enum ns) = refl
    by (kind.Flags ns) = refl

-- an interface whose rows stand elsewhere has the scopes that it had
pub scopes-put : (old new : List Definition) (to : Renaming) (i x : Interface) → ids_of x ≡ map to.rows (ids_of i) → ((k : ℕ) → Contains (ids_of i) k → (d : Definition) × (slice_get old k ≡ Some d) × (slice_get new (to.rows k) ≡ Some (put_row to d)))
    → set_interface_scopes new x ≡ set_interface_scopes old i
scopes-put old new to i x e h =
    let names : flat_map (names_at new) (ids_of x) ≡ flat_map (names_at old) (ids_of i) =
    ap (flat_map (names_at new)) e ∙ flat-as to.rows (names_at new) (names_at old) (ids_of i) (λ k c. let d = h k c in ap names_if d.2 ∙ (name-put to d.0 ∙ sym (ap names_if d.1))) in
    let members : map (members_at new) (ids_of x) ≡ map (members_at old) (ids_of i) =
    ap (map (members_at new)) e ∙ places-as to.rows (members_at new) (members_at old) (ids_of i) (λ k c. let d = h k c in ap members_if d.2 ∙ (members-put to d.0 ∙ sym (ap members_if d.1))) in
    cc

-- each id of an interface of a table is a row's
placed-type : (ds : List Definition) (ts : List TypeId) (k : ℕ) → list_all (is_type_id ds) ts ≡ true → Contains (map (λ t. t.0) ts) k → (d : Definition) × (slice_get ds k ≡ Some d)
placed-type ds ts k h c =
    let t = contains-unmap (λ (t : TypeId). t.0) ts k c in
    by t.0 t.2 (list-at (is_type_id ds) ts t.1.0 t.0 h (slice_get-get_or ts t.1.0 t.0 t.1.1 ∙ ap Some t.1.2))
  where
    by : (t : TypeId) → t.0 ≡ k → is_type_id ds t ≡ true → (d : Definition) × (slice_get ds k ≡ Some d)
    by t e z = row (slice_get ds t.0) refl z
      where
        row : (o : Option Definition) → slice_get ds t.0 ≡ o → is_some_row (type_of o) ≡ true → (d : Definition) × (slice_get ds k ≡ Some d)
        row None q y = absurd (true≢false (sym y))
        row (Some d) q y = (d, ap (slice_get ds) (sym e) ∙ q)

placed-function : (ds : List Definition) (ts : List FunctionId) (k : ℕ) → list_all (is_function_id ds) ts ≡ true → Contains (map (λ t. t.0) ts) k → (d : Definition) × (slice_get ds k ≡ Some d)
placed-function ds ts k h c =
    let t = contains-unmap (λ (t : FunctionId). t.0) ts k c in
    by t.0 t.2 (list-at (is_function_id ds) ts t.1.0 t.0 h (slice_get-get_or ts t.1.0 t.0 t.1.1 ∙ ap Some t.1.2))
  where
    by : (t : FunctionId) → t.0 ≡ k → is_function_id ds t ≡ true → (d : Definition) × (slice_get ds k ≡ Some d)
    by t e z = row (slice_get ds t.0) refl z
      where
        row : (o : Option Definition) → slice_get ds t.0 ≡ o → is_some_row (function_of o) ≡ true → (d : Definition) × (slice_get ds k ≡ Some d)
        row None q y = absurd (true≢false (sym y))
        row (Some d) q y = (d, ap (slice_get ds) (sym e) ∙ q)

pub placed-id : (ds : List Definition) (i : Interface) (k : ℕ) → is_placed ds i ≡ true → Contains (ids_of i) k → (d : Definition) × (slice_get ds k ≡ Some d)
placed-id ds i k h c =
    let p = split (list_all (is_type_id ds) i.uses) (list_all (is_type_id ds) i.types && list_all (is_function_id ds) i.functions) h in
    let q = split (list_all (is_type_id ds) i.types) (list_all (is_function_id ds) i.functions) p.1 in
    elim (contains-either (map (λ t. t.0) i.uses) (map (λ t. t.0) i.types ++ map (λ f. f.0) i.functions) k c) [
      | inl u ↦ placed-type ds i.uses k p.0 u
      | inr v ↦ elim (contains-either (map (λ t. t.0) i.types) (map (λ f. f.0) i.functions) k v) [ inl u ↦ placed-type ds i.types k q.0 u | inr u ↦ placed-function ds i.functions k q.1 u ]
    ]

pub placed-in : (s : Resolve) (k : ℕ) (i : Interface) → slice_get s.interfaces k ≡ Some i → is_placed s.definitions i ≡ true
placed-in s k i e = list-at (is_placed s.definitions) s.interfaces k i s.placed e

-- ---- a closed table

pub closed-scopes : (c : Resolve) → HasRowsInForm c → All AreDistinct (package_scopes c) → HasDistinctScopes c
closed-scopes c form distinct = record {
  labels = labels-distinct c distinct;
  interfaces = λ i (m, l, e). each-by-ids c.definitions c.worlds 0 0 c.interfaces form.interfaces form.parted (interfaces-distinct c distinct) m i (slice_get-get_or c.interfaces m i l ∙ ap Some e);
  worlds = worlds-distinct c distinct;
}

-- ---- labels

interfaces-none : (k : ℕ) (is : List Interface) → ((i : Interface) → Contains is i → i.«package».0 ≡ k → ⊥) → interface_labels_of is k ≡ []
interfaces-none k [] h = refl
interfaces-none k (i ∷ is) h = by (i.«package».0 == k) refl (interfaces-none k is (λ x c. h x (contains-later i x is c)))
  where
    by : (b : Bool) → (i.«package».0 == k) ≡ b → interface_labels_of is k ≡ [] → cond b (i.name ∷ []) [] ++ interface_labels_of is k ≡ []
    by true e r = absurd (h i (0, omega arith, refl) (eqb-true i.«package».0 k e))
    by false e r = r

worlds-none : (k : ℕ) (ws : List World) → ((w : World) → Contains ws w → w.«package».0 ≡ k → ⊥) → world_labels_of ws k ≡ []
worlds-none k [] h = refl
worlds-none k (w ∷ ws) h = by (w.«package».0 == k) refl (worlds-none k ws (λ x c. h x (contains-later w x ws c)))
  where
    by : (b : Bool) → (w.«package».0 == k) ≡ b → world_labels_of ws k ≡ [] → cond b (w.name ∷ []) [] ++ world_labels_of ws k ≡ []
    by true e r = absurd (h w (0, omega arith, refl) (eqb-true w.«package».0 k e))
    by false e r = r

-- all are of one package here, and of one there
interfaces-same : (put : Interface → Interface) (k m : ℕ) (is : List Interface) → ((i : Interface) → Contains is i → ((put i).«package».0 ≡ m) × (i.«package».0 ≡ k) × ((put i).name ≡ i.name)) → interface_labels_of (map put is) m ≡ interface_labels_of is k
interfaces-same put k m [] h = refl
interfaces-same put k m (i ∷ is) h =
    let a = h i (0, omega arith, refl) in
    let r = interfaces-same put k m is (λ x c. h x (contains-later i x is c)) in
    ap (λ (b : Bool). cond b ((put i).name ∷ []) [] ++ interface_labels_of (map put is) m) (eq-eqb (put i).«package».0 m a.0)
    ∙ (ap (λ (n : List ℕ). n ∷ interface_labels_of (map put is) m) a.2
    ∙ (ap (λ ns. i.name ∷ ns) r ∙ sym (ap (λ (b : Bool). cond b (i.name ∷ []) [] ++ interface_labels_of is k) (eq-eqb i.«package».0 k a.1))))

worlds-same : (put : World → World) (k m : ℕ) (ws : List World) → ((w : World) → Contains ws w → ((put w).«package».0 ≡ m) × (w.«package».0 ≡ k) × ((put w).name ≡ w.name)) → world_labels_of (map put ws) m ≡ world_labels_of ws k
worlds-same put k m [] h = refl
worlds-same put k m (i ∷ is) h =
    let a = h i (0, omega arith, refl) in
    let r = worlds-same put k m is (λ x c. h x (contains-later i x is c)) in
    ap (λ (b : Bool). cond b ((put i).name ∷ []) [] ++ world_labels_of (map put is) m) (eq-eqb (put i).«package».0 m a.0)
    ∙ (ap (λ (n : List ℕ). n ∷ world_labels_of (map put is) m) a.2
    ∙ (ap (λ ns. i.name ∷ ns) r ∙ sym (ap (λ (b : Bool). cond b (i.name ∷ []) [] ++ world_labels_of is k) (eq-eqb i.«package».0 k a.1))))

-- ---- a set with a package more

module _ (s c : Resolve) (j : JoinedPlaces) (q : IsJoined s c j) (own : PackageParts) (r : Resolve) (put : IsPut s c own j r) (form : HasRowsInForm c) (closed : is_closed c ≡ true) (old : HasDistinctScopes s) (new : HasDistinctScopes c) where
  abbrev to : Renaming
  to = renaming_of j

  own-one : (i : Interface) → Contains (own_interfaces c) i → i.«package».0 ≡ own_package c.packages
  own-one i h = let at = contains-get (own_interfaces c) i h in own-behind (length c.packages) 0 c.interfaces c.grouped at.0 i (sym (slice_get-drop (import_count c) c.interfaces at.0) ∙ at.1)

  import-not : (i : Interface) → Contains (imports c) i → i.«package».0 ≡ own_package c.packages → ⊥
  import-not i h e =
      let at = contains-get (imports c) i h in
      let l : at.0 < import_count c = omega (arith, slice_get_within (imports c) at.0 i at.1, length-take (import_count c) c.interfaces) in
      let other = import-other (own_package c.packages) c.interfaces at.0 i l (sym (slice_get-take (import_count c) c.interfaces at.0 l) ∙ at.1) in
      true≢false (sym (eq-eqb i.«package».0 (own_package c.packages) e) ∙ other)

  own-world : (w : World) → Contains c.worlds w → w.«package».0 ≡ own_package c.packages
  own-world w h = let at = contains-get c.worlds w h in eqb-true w.«package».0 (own_package c.packages) (list-at (is_world_of (own_package c.packages)) c.worlds at.0 w (own-worlds c closed) at.1)

  set-interface : (i : Interface) → Contains s.interfaces i → i.«package».0 < length s.packages
  set-interface i h = let at = contains-get s.interfaces i h in grouped-at (length s.packages) 0 s.interfaces at.0 i s.grouped (slice_get_within s.interfaces at.0 i at.1) (get_or_from_slice_get s.interfaces at.0 i i at.1)

  set-world : (w : World) → Contains s.worlds w → w.«package».0 < length s.packages
  set-world w h = let at = contains-get s.worlds w h in worlds-grouped-at (length s.packages) 0 s.worlds at.0 w s.worlds_grouped at.1

  put-number : (i : Interface) → Contains (map (put_interface to) (own_interfaces c)) i → i.«package».0 ≡ length s.packages
  put-number i h = let u = contains-unmap (put_interface to) (own_interfaces c) i h in ap (λ (x : Interface). x.«package».0) (sym u.2) ∙ q.are_joined.package_is

  put-world-number : (w : World) → Contains (map (put_world to) c.worlds) w → w.«package».0 ≡ length s.packages
  put-world-number w h = let u = contains-unmap (put_world to) c.worlds w h in ap (λ (x : World). x.«package».0) (sym u.2) ∙ q.are_joined.package_is

  interfaces-split : (k : ℕ) → interface_labels_of r.interfaces k ≡ interface_labels_of s.interfaces k ++ interface_labels_of (map (put_interface to) (own_interfaces c)) k
  interfaces-split k = ap (λ (is : List Interface). interface_labels_of is k) put.interfaces ∙ flat_map-append (interface_label_of k) s.interfaces (map (put_interface to) (own_interfaces c))

  worlds-split : (k : ℕ) → world_labels_of r.worlds k ≡ world_labels_of s.worlds k ++ world_labels_of (map (put_world to) c.worlds) k
  worlds-split k = ap (λ (ws : List World). world_labels_of ws k) put.worlds ∙ flat_map-append (world_label_of k) s.worlds (map (put_world to) c.worlds)

  -- a package of the set
  set-labels : (k : ℕ) → k < length s.packages → interface_labels_of r.interfaces k ++ world_labels_of r.worlds k ≡ interface_labels_of s.interfaces k ++ world_labels_of s.worlds k
  set-labels k l =
      let a : interface_labels_of r.interfaces k ≡ interface_labels_of s.interfaces k =
      interfaces-split k ∙ (ap (λ ns. interface_labels_of s.interfaces k ++ ns) (interfaces-none k (map (put_interface to) (own_interfaces c)) (λ i h e. other (put-number i h) e)) ∙ append-nil (interface_labels_of s.interfaces k)) in
      let b : world_labels_of r.worlds k ≡ world_labels_of s.worlds k =
      worlds-split k ∙ (ap (λ ns. world_labels_of s.worlds k ++ ns) (worlds-none k (map (put_world to) c.worlds) (λ w h e. other (put-world-number w h) e)) ∙ append-nil (world_labels_of s.worlds k)) in
      cc
    where
      other : {n : ℕ} → n ≡ length s.packages → n ≡ k → ⊥
      other e f = omega (arith, l, e, f)

  -- the own one
  own-labels : interface_labels_of r.interfaces (length s.packages) ++ world_labels_of r.worlds (length s.packages) ≡ interface_labels_of c.interfaces (own_package c.packages) ++ world_labels_of c.worlds (own_package c.packages)
  own-labels =
      let m = length s.packages in
      let k = own_package c.packages in
      let there : interface_labels_of r.interfaces m ≡ interface_labels_of (own_interfaces c) k =
      interfaces-split m
      ∙ (ap (λ ns. ns ++ interface_labels_of (map (put_interface to) (own_interfaces c)) m) (interfaces-none m s.interfaces (λ i h e. omega (arith, set-interface i h, e)))
      ∙ interfaces-same (put_interface to) k m (own_interfaces c) (λ i h. (q.are_joined.package_is, own-one i h, refl))) in
      let here : interface_labels_of c.interfaces k ≡ interface_labels_of (own_interfaces c) k =
      ap (λ (is : List Interface). interface_labels_of is k) (sym (take-append-drop (import_count c) c.interfaces))
      ∙ (flat_map-append (interface_label_of k) (imports c) (own_interfaces c) ∙ ap (λ ns. ns ++ interface_labels_of (own_interfaces c) k) (interfaces-none k (imports c) import-not)) in
      let worlds-there : world_labels_of r.worlds m ≡ world_labels_of c.worlds k =
      worlds-split m
      ∙ (ap (λ ns. ns ++ world_labels_of (map (put_world to) c.worlds) m) (worlds-none m s.worlds (λ w h e. omega (arith, set-world w h, e)))
      ∙ worlds-same (put_world to) k m c.worlds (λ w h. (q.are_joined.package_is, own-world w h, refl))) in
      cc

  labels-are : (k : ℕ) → k < length r.packages → AreDistinct (interface_labels_of r.interfaces k ++ world_labels_of r.worlds k)
  labels-are k l = by (cases k (omega (arith, l, ap length put.packages, length-append s.packages (own ∷ []))))
    where
      cases : (k : ℕ) → k < length s.packages + 1 → (k < length s.packages) ⊎ (k ≡ length s.packages)
      cases k l = grind arith

      by : (k < length s.packages) ⊎ (k ≡ length s.packages) → AreDistinct (interface_labels_of r.interfaces k ++ world_labels_of r.worlds k)
      by (inl b) = subst AreDistinct (sym (set-labels k b)) (old.labels k b)
      by (inr e) =
          subst (λ n. AreDistinct (interface_labels_of r.interfaces n ++ world_labels_of r.worlds n)) (sym e)
          (subst AreDistinct (sym own-labels) (new.labels (own_package c.packages) (omega (arith, some-package c closed))))

  -- ---- interfaces

  set-scopes : (i : Interface) → Contains s.interfaces i → All AreDistinct (set_interface_scopes (rows-there s c j q) i)
  set-scopes i h =
      let at = contains-get s.interfaces i h in
      subst (λ (ss : List (List (List ℕ))). All AreDistinct ss)
      (sym (scopes-put s.definitions (rows-there s c j q) in_place i i (sym (map-id (ids_of i)))
      (λ k m. let d = placed-id s.definitions i k (placed-in s at.0 i at.1) m in (d.0, d.1, front-get s.definitions (own-rows s c j q) k d.0 d.1 ∙ ap Some (sym (row-stays d.0))))))
      (old.interfaces i h)

  own-scopes : (i : Interface) → Contains (own_interfaces c) i → All AreDistinct (set_interface_scopes (rows-there s c j q) (put_interface to i))
  own-scopes i h =
      let at = contains-get (own_interfaces c) i h in
      let there : slice_get c.interfaces (import_count c + at.0) ≡ Some i = sym (slice_get-drop (import_count c) c.interfaces at.0) ∙ at.1 in
      subst (λ (ss : List (List (List ℕ))). All AreDistinct ss)
      (sym (scopes-put c.definitions (rows-there s c j q) to i (put_interface to i) (ids-put s c j q i)
      (λ k m. let d = placed-id c.definitions i k (placed-in c (import_count c + at.0) i there) m in (d.0, d.1, row-there s c j q k d.0 d.1))))
      (new.interfaces i (import_count c + at.0, slice_get_within c.interfaces (import_count c + at.0) i there, get_or_from_slice_get c.interfaces (import_count c + at.0) i i there))

  scopes-there : (i : Interface) → Contains (s.interfaces ++ map (put_interface to) (own_interfaces c)) i → All AreDistinct (set_interface_scopes (rows-there s c j q) i)
  scopes-there i h = elim (contains-either s.interfaces (map (put_interface to) (own_interfaces c)) i h) [
    | inl a ↦ set-scopes i a
    | inr a ↦ let u = contains-unmap (put_interface to) (own_interfaces c) i a in subst (λ (x : Interface). All AreDistinct (set_interface_scopes (rows-there s c j q) x)) u.2 (own-scopes u.0 u.1)
  ]

  pub put-scopes : worlds r ≡ worlds s ++ worlds c → HasDistinctScopes r
  put-scopes e = record {
    labels = labels-are;
    interfaces = λ i h.
        subst (λ (ds : List Definition). All AreDistinct (set_interface_scopes ds i)) (sym put.definitions) (scopes-there i (subst (λ (is : List Interface). Contains is i) put.interfaces h));
    worlds = subst (λ (ws : List WorldMeaning). All AreDistinct (flat_map world_scopes ws)) (sym e)
        (subst (λ (ss : List (List (List ℕ))). All AreDistinct ss) (sym (flat_map-append world_scopes (worlds s) (worlds c)))
        (all-append AreDistinct (flat_map world_scopes (worlds s)) (flat_map world_scopes (worlds c)) old.worlds new.worlds));
  }

-- ---- a set of none

pub none-scopes : (r : Resolve) → IsEmpty r → HasDistinctScopes r
none-scopes r h = record {
  labels = λ k l. absurd (omega (arith, l, ap length h.packages));
  interfaces = λ i c. absurd (omega (arith, c.1, ap length h.interfaces));
  worlds = subst (λ (ws : List World). All AreDistinct (flat_map world_scopes (map (λ w. world_meaning (interface_names r) (trees r) r.definitions (world_name r w) w) ws))) (sym h.worlds) (all-none AreDistinct);
}
