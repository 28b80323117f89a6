-- The scopes of tables in form, by the ids of interfaces and by their rows.
use Rattle.std.proofs.Common.{◌≡◌, inl, inr, ℕ, zero, suc, ◌+◌, Bool, true, false, not, ◌&&◌, nat_le, List, [], ◌∷◌, ◌++◌, map, flat_map, length, slice_get, Option, None, Some, Contains, All, refl, ap, sym, subst, ◌∙◌, true≢false}
use Rattle.std.specs.Prelude.{is_some}
use Rattle.std.specs.List.{list_all}
use Rattle.std.specs.Str.{bytes_eq}
use Rattle.std.proofs.lemmas.Bool.{leb-true}
use Rattle.std.proofs.lemmas.Option.{slice_get-get_or}
use Rattle.std.proofs.lemmas.Slice.Eq.{bytes_eq-Decides}
use Rattle.package_form.specs.Scope.{AreDistinct}
use Rattle.package_form.specs.Naming.{kind_members, row_members, name_if, row_names, rows_scopes, interfaces_scopes}
use Rattle.package_form.specs.Ids.{places_where}
use Rattle.package_form.specs.Ends.{end_of, rows_of, is_parted}
use Rattle.package_form.specs.Form.{is_named, ids_of, is_local, is_use_at, has_ids, are_interfaces}
use Rattle.package_form.specs.Postfix.{is_unnamed, parts, parts_of, is_inner, inner_row, Leaves, begin, inner, whole, IsPostfix}
use Rattle.package_form.proofs.AllAndContains.{all-head, all-tail, all-none, all-cons, all-append, all-left, all-right, all-contained, contains-map, contains-unmap, contains-here, contains-later}
use Rattle.tables.proofs.ClosedTypesRowByRow.{split}
use Rattle.tables.specs.declared.tables.TypeDefKind.{TypeDefKind}
use Rattle.tables.specs.declared.tables.TypeDefKind.TheVariants as kind
use Rattle.tables.specs.declared.tables.TypeName.{TypeName}
use Rattle.tables.specs.declared.tables.Definition.{Definition}
use Rattle.tables.specs.declared.tables.Definition.TheVariants as row
use Rattle.tables.specs.declared.tables.Interface.{Interface}
use Rattle.tables.specs.declared.tables.World.{World}
use Rattle.package_sets.specs.Set.{AreRowsOf}
use Rattle.package_sets.specs.SetScopes.{names_if, members_if, names_at, members_at, set_interface_scopes}
use Rattle.package_sets.proofs.OwnedRows.WorldsAreApart.{push-get}
use Rattle.package_sets.proofs.OwnedRows.EachRowHasAnOwner.{block-row, one-later, plus-none}
use Rattle.package_sets.proofs.KeptParts.KeptTogether.{places-in}
use Rattle.package_sets.proofs.GrowingLists.{get-contains}

pub all-build : {A : Type 0} (P : A → Type 0) (xs : List A) → ((x : A) → Contains xs x → P x) → All P xs
all-build P [] h = all-none P
all-build P (x ∷ xs) h = all-cons P x xs (h x (contains-here x xs)) (all-build P xs (λ y c. h y (contains-later x y xs c)))

-- ---- rows without names have neither names nor members

unnamed-name : (d : Definition) → is_named d ≡ false → row_names d ≡ []
unnamed-name (row.Function f) h = absurd (true≢false h)
unnamed-name (row.Type d) h = by d.name h
  where
    by : (n : Option TypeName) → not (not (is_some n)) ≡ false → name_if n ≡ []
    by None z = refl
    by (Some n) z = absurd (true≢false z)

inner-members : (k : TypeDefKind) → is_inner k ≡ true → kind_members k ≡ []
inner-members (kind.Use t) h = refl
inner-members (kind.Alias v) h = refl
inner-members (kind.List v) h = refl
inner-members (kind.Option v) h = refl
inner-members (kind.Result ok error) h = refl
inner-members (kind.Tuple vs) h = refl
inner-members (kind.Record fs) h = absurd (true≢false (sym h))
inner-members (kind.Variant cs) h = absurd (true≢false (sym h))
inner-members (kind.Enum ns) h = absurd (true≢false (sym h))
inner-members (kind.Flags ns) h = absurd (true≢false (sym h))

unnamed-members : (rows : List Definition) (unused : List ℕ) → Leaves rows unused → (k : ℕ) (d : Definition) → slice_get rows k ≡ Some d → is_unnamed d ≡ true → row_members d ≡ []
unnamed-members _ _ begin k d e u = absurd (cc)
unnamed-members _ _ (inner rows unused kk i l) k d e u = elim (push-get rows (inner_row kk) d k e) [
  | inl g ↦ unnamed-members rows (unused ++ parts rows kk) l k d g u
  | inr g ↦ ap row_members (sym g.1) ∙ inner-members kk i
]
unnamed-members _ _ (whole rows w m a l) k d e u = elim (push-get rows w d k e) [
  | inl g ↦ unnamed-members rows (parts_of rows w) l k d g u
  | inr g ↦ absurd (true≢false (sym (ap is_unnamed g.1 ∙ u) ∙ m))
]

-- ---- the names of a block

abbrev IsBlockAt : List Definition → ℕ → List Definition → Type 0
IsBlockAt rows start ds = (j : ℕ) (d : Definition) → slice_get ds j ≡ Some d → slice_get rows (start + j) ≡ Some d

names-block : (rows : List Definition) (start : ℕ) (ds : List Definition) → IsBlockAt rows start ds → flat_map (names_at rows) (places_where is_named start ds) ≡ flat_map row_names ds
names-block rows start [] h = refl
names-block rows start (d ∷ ds) h = by (is_named d) refl (names-block rows (start + 1) ds (λ j c e. ap (slice_get rows) (one-later start j) ∙ h (suc j) c e))
  where
    here : names_at rows start ≡ row_names d
    here = ap names_if (ap (slice_get rows) (sym (plus-none start)) ∙ h 0 d refl)

    by : (b : Bool) → is_named d ≡ b → flat_map (names_at rows) (places_where is_named (start + 1) ds) ≡ flat_map row_names ds → flat_map (names_at rows) (places_where is_named start (d ∷ ds)) ≡ flat_map row_names (d ∷ ds)
    by true e r = rw e (ap (λ ns. ns ++ flat_map (names_at rows) (places_where is_named (start + 1) ds)) here ∙ ap (λ ns. row_names d ++ ns) r)
    by false e r = rw e (r ∙ ap (λ ns. ns ++ flat_map row_names ds) (sym (unnamed-name d e)))

place-of : (n : ℕ) (ds : List Definition) (j : ℕ) (d : Definition) → slice_get ds j ≡ Some d → is_named d ≡ true → Contains (places_where is_named n ds) (n + j)
place-of n [] j d e h = absurd (cc)
place-of n (c ∷ ds) zero d e h =
    let same : c ≡ d = cc in
    let named : is_named c ≡ true = ap is_named same ∙ h in
    rw named (subst (λ x. Contains (n ∷ places_where is_named (n + 1) ds) x) (sym (plus-none n)) (contains-here n (places_where is_named (n + 1) ds)))
place-of n (c ∷ ds) (suc j) d e h = by (is_named c) refl (subst (λ x. Contains (places_where is_named (n + 1) ds) x) (one-later n j) (place-of (n + 1) ds j d e h))
  where
    by : (b : Bool) → is_named c ≡ b → Contains (places_where is_named (n + 1) ds) (n + suc j) → Contains (places_where is_named n (c ∷ ds)) (n + suc j)
    by true q r = rw q (contains-later n (n + suc j) (places_where is_named (n + 1) ds) r)
    by false q r = rw q r

-- ---- an interface

module _ (rows : List Definition) (start k : ℕ) (i : Interface) (a : AreRowsOf rows start k i) where
  abbrev block : List Definition
  block = rows_of rows start i

  block-at : IsBlockAt rows start block
  block-at j d e = block-row rows start (end_of start i) j d e

  ids : ids_of i ≡ places_where is_named start block
  ids = (bytes_eq-Decides (ids_of i) (places_where is_named start block)).0
      (split (bytes_eq (ids_of i) (places_where is_named start block)) (list_all (is_use_at rows) i.uses && list_all (λ t. not (is_use_at rows t)) i.types) a.ids).0

  names-same : flat_map (names_at rows) (ids_of i) ≡ flat_map row_names block
  names-same = ap (flat_map (names_at rows)) ids ∙ names-block rows start block block-at

  scopes-by-ids : All AreDistinct (rows_scopes block) → All AreDistinct (set_interface_scopes rows i)
  scopes-by-ids h =
      all-cons AreDistinct (flat_map (names_at rows) (ids_of i)) (map (members_at rows) (ids_of i))
      (subst AreDistinct (sym names-same) (all-head AreDistinct (flat_map row_names block) (map row_members block) h))
      (all-build AreDistinct (map (members_at rows) (ids_of i)) each)
    where
      each : (ns : List (List ℕ)) → Contains (map (members_at rows) (ids_of i)) ns → AreDistinct ns
      each ns c =
          let x = contains-unmap (members_at rows) (ids_of i) ns c in
          let p = places-in is_named start block x.0 (subst (λ (xs : List ℕ). Contains xs x.0) ids x.1) in
          let at : members_at rows x.0 ≡ row_members p.1 = ap (members_at rows) p.2 ∙ ap members_if (block-at p.0 p.1 p.3) in
          subst AreDistinct (sym at ∙ x.2)
          (all-contained AreDistinct (map row_members block) (row_members p.1) (all-tail AreDistinct (flat_map row_names block) (map row_members block) h) (contains-map row_members block p.1 (get-contains block p.0 p.1 p.3)))

  scopes-by-rows : IsPostfix rows → AreDistinct [] → All AreDistinct (set_interface_scopes rows i) → All AreDistinct (rows_scopes block)
  scopes-by-rows postfix nothing h =
      all-cons AreDistinct (flat_map row_names block) (map row_members block)
      (subst AreDistinct names-same (all-head AreDistinct (flat_map (names_at rows) (ids_of i)) (map (members_at rows) (ids_of i)) h))
      (all-build AreDistinct (map row_members block) each)
    where
      one : (b : Bool) (j : ℕ) (d : Definition) → is_named d ≡ b → slice_get block j ≡ Some d → AreDistinct (row_members d)
      one true j d q e =
          let x = subst (λ (xs : List ℕ). Contains xs (start + j)) (sym ids) (place-of start block j d e q) in
          subst AreDistinct (ap members_if (block-at j d e))
          (all-contained AreDistinct (map (members_at rows) (ids_of i)) (members_at rows (start + j)) (all-tail AreDistinct (flat_map (names_at rows) (ids_of i)) (map (members_at rows) (ids_of i)) h)
          (contains-map (members_at rows) (ids_of i) (start + j) x))
      one false j d q e = subst AreDistinct (sym (unnamed-members rows [] postfix (start + j) d (block-at j d e) (not-not (is_unnamed d) q))) nothing
        where
          not-not : (b : Bool) → not b ≡ false → b ≡ true
          not-not true z = refl
          not-not false z = absurd (true≢false z)

      each : (ns : List (List ℕ)) → Contains (map row_members block) ns → AreDistinct ns
      each ns c =
          let d = contains-unmap row_members block ns c in
          subst AreDistinct d.2 (one (is_named d.0) d.1.0 d.0 refl (slice_get-get_or block d.1.0 d.0 d.1.1 ∙ ap Some d.1.2))

-- ---- all interfaces of a table in form

module _ (rows : List Definition) (ws : List World) where
  -- the first interface's rows
  first-rows : (k start : ℕ) (i : Interface) (is : List Interface) → are_interfaces rows k start (i ∷ is) ≡ true → is_parted (length rows) start (i ∷ is) ws ≡ true
      → AreRowsOf rows start k i × (are_interfaces rows (k + 1) (end_of start i) is ≡ true) × (is_parted (length rows) (end_of start i) is ws ≡ true)
  first-rows k start i is h p =
      let a = split (has_ids rows start i && list_all (is_local rows k) (rows_of rows start i)) (are_interfaces rows (k + 1) (end_of start i) is) h in
      let b = split (has_ids rows start i) (list_all (is_local rows k) (rows_of rows start i)) a.0 in
      let c = split (nat_le start (end_of start i)) (nat_le (end_of start i) (length rows) && is_parted (length rows) (end_of start i) is ws) p in
      let d = split (nat_le (end_of start i) (length rows)) (is_parted (length rows) (end_of start i) is ws) c.1 in
      (record { begins = leb-true start (end_of start i) c.0; ends = leb-true (end_of start i) (length rows) d.0; ids = b.0; local = b.1 }, a.1, d.1)

  pub each-by-ids : (k start : ℕ) (is : List Interface) → are_interfaces rows k start is ≡ true → is_parted (length rows) start is ws ≡ true → All AreDistinct (interfaces_scopes rows start is)
      → (m : ℕ) (i : Interface) → slice_get is m ≡ Some i → All AreDistinct (set_interface_scopes rows i)
  each-by-ids k start [] h p d m i e = absurd (cc)
  each-by-ids k start (x ∷ is) h p d zero i e =
      let f = first-rows k start x is h p in
      let same : x ≡ i = cc in
      subst (λ (y : Interface). All AreDistinct (set_interface_scopes rows y)) same (scopes-by-ids rows start k x f.0 (all-left AreDistinct (rows_scopes (rows_of rows start x)) (interfaces_scopes rows (end_of start x) is) d))
  each-by-ids k start (x ∷ is) h p d (suc m) i e =
      let f = first-rows k start x is h p in
      each-by-ids (k + 1) (end_of start x) is f.1 f.2 (all-right AreDistinct (rows_scopes (rows_of rows start x)) (interfaces_scopes rows (end_of start x) is) d) m i e

  pub all-by-rows : IsPostfix rows → AreDistinct [] → (k start : ℕ) (is : List Interface) → are_interfaces rows k start is ≡ true → is_parted (length rows) start is ws ≡ true
      → ((m : ℕ) (i : Interface) → slice_get is m ≡ Some i → All AreDistinct (set_interface_scopes rows i)) → All AreDistinct (interfaces_scopes rows start is)
  all-by-rows postfix nothing k start [] h p d = all-none AreDistinct
  all-by-rows postfix nothing k start (x ∷ is) h p d =
      let f = first-rows k start x is h p in
      all-append AreDistinct (rows_scopes (rows_of rows start x)) (interfaces_scopes rows (end_of start x) is) (scopes-by-rows rows start k x f.0 postfix nothing (d 0 x refl))
      (all-by-rows postfix nothing (k + 1) (end_of start x) is f.1 f.2 (λ m i e. d (suc m) i e))
