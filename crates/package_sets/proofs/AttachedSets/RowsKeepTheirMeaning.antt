-- What rows mean that are put behind a set: what they meant in the closed table.
use Rattle.std.proofs.Common.{◌≡◌, ◌≤◌, ◌<◌, ◌⊎◌, inl, inr, ℕ, zero, suc, ◌+◌, ◌-◌, Bool, true, false, ◌==◌, if◌then◌else◌, List, [], ◌∷◌, ◌++◌, length, map, take, drop, get_or, slice_get, Option, None, Some, refl, ap, sym, subst, ◌∙◌, arith, append_assoc, eq-eqb}
use Rattle.std.specs.Option.{option_map}
use Rattle.std.specs.List.{list_all}
use Rattle.std.proofs.lemmas.List.{length-map, length-take, length-drop, get_or_append_left, get_or-append-add, take-append-drop}
use Rattle.std.proofs.lemmas.Option.{slice_get_within}
use Rattle.canonical_abi.proofs.Traces.TracesLeaveImages.{slice_get-take, slice_get-drop}
use Rattle.package_form.specs.Closed.{own_package, is_closed, has_own, are_of_a_set, has_each_package, is_world_of}
use Rattle.package_form.specs.Ends.{interfaces_end}
use Rattle.package_form.specs.Reached.{reached, are_reached}
use Rattle.package_form.specs.Form.{are_interfaces}
use Rattle.tables.specs.Tables.{are_earlier, definition_below}
use Rattle.tables.specs.Names.{full_name}
use Rattle.tables.specs.Package.{Tree, NamedDefinition, reference, references, trees, definition_of, definitions_from, interface_names, definitions}
use Rattle.tables.specs.PackageNames.{PackageParts}
use Rattle.tables.proofs.ClosedTypesRowByRow.{split, both}
use Rattle.tables.specs.declared.tables.Owner.{Owner}
use Rattle.tables.specs.declared.tables.Owner.TheVariants as owner
use Rattle.tables.specs.declared.tables.Definition.{Definition}
use Rattle.tables.specs.declared.tables.Interface.{Interface}
use Rattle.tables.specs.declared.tables.World.{World}
use Rattle.tables.specs.declared.tables.Resolve.{Resolve}
use Rattle.tables.specs.Names.{owner_of}
use Rattle.set_rows.specs.Moved.{Renaming, put_row}
use Rattle.package_sets.specs.Restricted.{definitions_where, number_or}
use Rattle.package_sets.specs.Set.{IsPackageByPackage, HasRowsInForm}
use Rattle.package_sets.specs.Joining.{import_count, imports, own_interfaces}
use Rattle.package_sets.specs.Joined.{renaming_of, IsJoined}
use Rattle.package_sets.proofs.AttachedSets.PutBehind.{IsPut}
use Rattle.package_sets.specs.Attached.{IsOwn}
use Rattle.package_sets.specs.Follows.{is_own_owner, own_definitions, own_interface_names}
use Rattle.package_sets.specs.Joined.{JoinedPlaces}
use Rattle.package_sets.proofs.GrowingLists.{none-within}
use Rattle.package_sets.proofs.KeptParts.PropertiesOfKept.{list-at}
use Rattle.package_sets.proofs.KeptParts.KeptRowsKeepMeaning.{nameless}
use Rattle.package_sets.proofs.MovedRows.MovedRowsKeepMeaning.{AreThere, HaveNames, IsOwnedWithin, AreOwnedWithin, StandBehind, in_place, length-references, definitions-append, references-stay, definitions-stay, imports-there, definitions-there}
use Rattle.package_sets.proofs.OwnedRows.RowsAreOwned.{IsOwnedFrom, IsOfWorlds, within-of, worlds-within, rows-owned, worlds-owned, interfaces-split, ends-split, parted-worlds, length-rows, all-owned}
use Rattle.package_sets.proofs.AttachedSets.NamesTellTheSet.{name-get, name-found, names-are}
use Rattle.package_sets.proofs.AttachedSets.OwnPartStandsBehind.{before-le, import-other, own-behind, import-found, before, interfaces-behind, rows-behind, earlier-drop}

-- ---- definitions of some owners

where-append : (has : Option Owner → Bool) (ns : List (List ℕ)) (ts : List Tree) (ds es : List Definition) → definitions_where has ns ts (ds ++ es) ≡ definitions_where has ns ts ds ++ definitions_where has ns (references ns ts ds) es
where-append has ns ts [] es = refl
where-append has ns ts (d ∷ ds) es =
    let first : List NamedDefinition = if has (owner_of d) then definition_of ns ts d else [] in
    ap (λ zs. first ++ zs) (where-append has ns (ts ++ reference ns ts d ∷ []) ds es)
    ∙ sym (append_assoc first (definitions_where has ns (ts ++ reference ns ts d ∷ []) ds) (definitions_where has ns (references ns (ts ++ reference ns ts d ∷ []) ds) es))

where-none : (has : Option Owner → Bool) (ns : List (List ℕ)) (ts : List Tree) (ds : List Definition) → ((k : ℕ) (d : Definition) → slice_get ds k ≡ Some d → has (owner_of d) ≡ false) → definitions_where has ns ts ds ≡ []
where-none has ns ts [] h = refl
where-none has ns ts (d ∷ ds) h =
    ap (λ (b : Bool). (if b then definition_of ns ts d else []) ++ definitions_where has ns (ts ++ reference ns ts d ∷ []) ds) (h 0 d refl)
    ∙ where-none has ns (ts ++ reference ns ts d ∷ []) ds (λ k c e. h (suc k) c e)

where-one : (has : Option Owner → Bool) (ns : List (List ℕ)) (ts : List Tree) (d : Definition) → (has (owner_of d) ≡ true) ⊎ (owner_of d ≡ None) → (if has (owner_of d) then definition_of ns ts d else []) ≡ definition_of ns ts d
where-one has ns ts d (inl h) = ap (λ (b : Bool). if b then definition_of ns ts d else []) h
where-one has ns ts d (inr h) = by (has (owner_of d)) ∙ sym (nameless ns ts d h)
  where
    by : (b : Bool) → (if b then definition_of ns ts d else []) ≡ []
    by true = nameless ns ts d h
    by false = refl

where-all : (has : Option Owner → Bool) (ns : List (List ℕ)) (ts : List Tree) (ds : List Definition) → ((k : ℕ) (d : Definition) → slice_get ds k ≡ Some d → (has (owner_of d) ≡ true) ⊎ (owner_of d ≡ None))
    → definitions_where has ns ts ds ≡ definitions_from ns ts ds
where-all has ns ts [] h = refl
where-all has ns ts (d ∷ ds) h =
    ap (λ zs. zs ++ definitions_where has ns (ts ++ reference ns ts d ∷ []) ds) (where-one has ns ts d (h 0 d refl))
    ∙ ap (λ zs. definition_of ns ts d ++ zs) (where-all has ns (ts ++ reference ns ts d ∷ []) ds (λ k c e. h (suc k) c e))

-- ---- whose the rows of a closed table are

module _ (c : Resolve) (form : HasRowsInForm c) (closed : is_closed c ≡ true) where
  pub all-worlds : list_all (is_world_of (own_package c.packages)) c.worlds ≡ true
  all-worlds =
      let own = own_package c.packages in
      let a = split (has_own own c.interfaces c.worlds) _ closed in
      let b = split (are_of_a_set c.packages) _ a.1 in
      let d = split (has_each_package own 0 c.interfaces) _ b.1 in
      (split (list_all (is_world_of own) c.worlds) (are_reached own (reached c.definitions c.worlds) 0 c.interfaces) d.1).0

  abbrev pub import-end : ℕ
  import-end = interfaces_end 0 (imports c)

  count : length (imports c) ≡ import_count c
  count = omega (arith, length-take (import_count c) c.interfaces, before-le (own_package c.packages) c.interfaces)

  parts : (are_interfaces c.definitions 0 0 (imports c) ≡ true) × (are_interfaces c.definitions (0 + import_count c) import-end (own_interfaces c) ≡ true)
  parts = interfaces-split c.definitions 0 0 (import_count c) c.interfaces form.interfaces

  import-owned : (t : ℕ) (d : Definition) → t < import-end → slice_get c.definitions t ≡ Some d → IsOwnedFrom 0 (import_count c) (owner_of d)
  import-owned t d l e = subst (λ n. IsOwnedFrom 0 n (owner_of d)) (omega (arith, count)) (rows-owned c.definitions 0 0 (imports c) parts.0 t d (omega arith) l e)

  pub own-owned : (t : ℕ) (d : Definition) → import-end ≤ t → slice_get c.definitions t ≡ Some d → IsOwnedFrom (import_count c) (length c.interfaces) (owner_of d) ⊎ IsOfWorlds (length c.worlds) (owner_of d)
  own-owned t d a e = by (cut t (interfaces_end 0 c.interfaces))
    where
      cut : (n m : ℕ) → (n < m) ⊎ (m ≤ n)
      cut n m = grind arith

      by : (t < interfaces_end 0 c.interfaces) ⊎ (interfaces_end 0 c.interfaces ≤ t) → IsOwnedFrom (import_count c) (length c.interfaces) (owner_of d) ⊎ IsOfWorlds (length c.worlds) (owner_of d)
      by (inl l) =
          let first : 0 + import_count c ≡ import_count c = omega arith in
          let last : 0 + import_count c + length (own_interfaces c) ≡ length c.interfaces = omega (arith, length-drop (import_count c) c.interfaces, before-le (own_package c.packages) c.interfaces) in
          let inside : t < interfaces_end import-end (own_interfaces c) = omega (arith, l, ends-split 0 (import_count c) c.interfaces) in
          inl (subst (λ n. IsOwnedFrom n (length c.interfaces) (owner_of d)) first
          (subst (λ n. IsOwnedFrom (0 + import_count c) n (owner_of d)) last (rows-owned c.definitions (0 + import_count c) import-end (own_interfaces c) parts.1 t d a inside e)))
      by (inr g) =
          inr (subst (λ n. IsOfWorlds n (owner_of d)) (omega arith)
          (worlds-owned c.definitions (length c.definitions) 0 (interfaces_end 0 c.interfaces) c.worlds (parted-worlds (length c.definitions) 0 c.interfaces c.worlds form.parted) form.items t d g (slice_get_within c.definitions t d e) e))

  pub all-within : AreOwnedWithin (length c.interfaces) c.definitions
  all-within t d e = by (cut t import-end)
    where
      cut : (n m : ℕ) → (n < m) ⊎ (m ≤ n)
      cut n m = grind arith

      either : IsOwnedFrom (import_count c) (length c.interfaces) (owner_of d) ⊎ IsOfWorlds (length c.worlds) (owner_of d) → IsOwnedWithin (length c.interfaces) (owner_of d)
      either (inl h) = within-of (import_count c) (length c.interfaces) (length c.interfaces) (omega arith) (owner_of d) h
      either (inr h) = worlds-within (length c.worlds) (length c.interfaces) (owner_of d) h

      by : (t < import-end) ⊎ (import-end ≤ t) → IsOwnedWithin (length c.interfaces) (owner_of d)
      by (inl l) = within-of 0 (import_count c) (length c.interfaces) (before-le (own_package c.packages) c.interfaces) (owner_of d) (import-owned t d l e)
      by (inr g) = either (own-owned t d g e)

  import-not : (o : Option Owner) → IsOwnedFrom 0 (import_count c) o → is_own_owner c o ≡ false
  import-not None h = refl
  import-not (Some (owner.World w)) h = absurd h
  import-not (Some (owner.Interface i)) h = by (slice_get c.interfaces i.0) refl
    where
      by : (o : Option Interface) → slice_get c.interfaces i.0 ≡ o → is_own_owner c (Some (owner.Interface i)) ≡ false
      by None e = absurd (none-within c.interfaces i.0 (omega (arith, h.1, before-le (own_package c.packages) c.interfaces)) e)
      by (Some x) e =
          ap (λ (o : Option Interface). number_or (option_map (λ (y : Interface). y.«package».0) o) == own_package c.packages) e ∙ import-other (own_package c.packages) c.interfaces i.0 x h.1 e

  own-is : (o : Option Owner) → IsOwnedFrom (import_count c) (length c.interfaces) o ⊎ IsOfWorlds (length c.worlds) o → (is_own_owner c o ≡ true) ⊎ (o ≡ None)
  own-is None h = inr refl
  own-is (Some (owner.Interface i)) (inr h) = absurd h
  own-is (Some (owner.Interface i)) (inl h) = by (slice_get c.interfaces i.0) refl
    where
      by : (o : Option Interface) → slice_get c.interfaces i.0 ≡ o → (is_own_owner c (Some (owner.Interface i)) ≡ true) ⊎ (Some (owner.Interface i) ≡ None)
      by None e = absurd (none-within c.interfaces i.0 h.1 e)
      by (Some x) e =
          let at : import_count c + (i.0 - import_count c) ≡ i.0 = omega (arith, h.0) in
          let own : x.«package».0 ≡ own_package c.packages = own-behind (length c.packages) 0 c.interfaces c.grouped (i.0 - import_count c) x (ap (slice_get c.interfaces) at ∙ e) in
          inl (ap (λ (o : Option Interface). number_or (option_map (λ (y : Interface). y.«package».0) o) == own_package c.packages) e ∙ eq-eqb x.«package».0 (own_package c.packages) own)
  own-is (Some (owner.World w)) (inl h) = absurd h
  own-is (Some (owner.World w)) (inr h) = by (slice_get c.worlds w.0) refl
    where
      by : (o : Option World) → slice_get c.worlds w.0 ≡ o → (is_own_owner c (Some (owner.World w)) ≡ true) ⊎ (Some (owner.World w) ≡ None)
      by None e = absurd (none-within c.worlds w.0 h e)
      by (Some x) e =
          inl (ap (λ (o : Option World). number_or (option_map (λ (y : World). y.«package».0) o) == own_package c.packages) e ∙ list-at (is_world_of (own_package c.packages)) c.worlds w.0 x all-worlds e)

  -- the own definitions are those of the rows behind the imports'
  pub own-told : (m : ℕ) → m ≡ import-end
      → own_definitions c ≡ definitions_from (interface_names c) (references (interface_names c) [] (take m c.definitions)) (drop m c.definitions)
  own-told m e =
      let ns = interface_names c in
      let ts = references ns [] (take m c.definitions) in
      ap (λ (ds : List Definition). definitions_where (is_own_owner c) ns [] ds) (sym (take-append-drop m c.definitions))
      ∙ (where-append (is_own_owner c) ns [] (take m c.definitions) (drop m c.definitions)
      ∙ (ap (λ zs. zs ++ definitions_where (is_own_owner c) ns ts (drop m c.definitions)) (where-none (is_own_owner c) ns [] (take m c.definitions) front) ∙ where-all (is_own_owner c) ns ts (drop m c.definitions) others))
    where
      front : (k : ℕ) (d : Definition) → slice_get (take m c.definitions) k ≡ Some d → is_own_owner c (owner_of d) ≡ false
      front k d h =
          let l : k < m = omega (arith, slice_get_within (take m c.definitions) k d h, length-take m c.definitions) in
          import-not (owner_of d) (import-owned k d (omega (arith, l, e)) (sym (slice_get-take m c.definitions k l) ∙ h))

      others : (k : ℕ) (d : Definition) → slice_get (drop m c.definitions) k ≡ Some d → (is_own_owner c (owner_of d) ≡ true) ⊎ (owner_of d ≡ None)
      others k d h = own-is (owner_of d) (own-owned (m + k) d (omega (arith, e)) (sym (slice_get-drop m c.definitions k) ∙ h))

earlier-take : (n m : ℕ) (ds : List Definition) → are_earlier n ds ≡ true → are_earlier n (take m ds) ≡ true
earlier-take n zero ds h = refl
earlier-take n (suc m) [] h = refl
earlier-take n (suc m) (d ∷ ds) h = let p = split (definition_below n d) (are_earlier (n + 1) ds) h in both (definition_below n d) (are_earlier (n + 1) (take m ds)) p.0 (earlier-take (n + 1) m ds p.1)

owned-take : (count m : ℕ) (ds : List Definition) → AreOwnedWithin count ds → AreOwnedWithin count (take m ds)
owned-take count m ds h k d e =
    let l : k < m = omega (arith, slice_get_within (take m ds) k d e, length-take m ds) in
    h k d (sym (slice_get-take m ds k l) ∙ e)

owned-drop : (count m : ℕ) (ds : List Definition) → AreOwnedWithin count ds → AreOwnedWithin count (drop m ds)
owned-drop many m ds h k d e = h (m + k) d (sym (slice_get-drop m ds k) ∙ e)

-- ---- the set with the package

module _ (s c : Resolve) (j : JoinedPlaces) (q : IsJoined s c j) (own : PackageParts) (is : IsOwn c own) (r : Resolve) (put : IsPut s c own j r) (set : IsPackageByPackage s) (form : HasRowsInForm c) (closed : is_closed c ≡ true) where
  abbrev to : Renaming
  to = renaming_of j

  -- each interface of the closed table has its name there
  pub have-names : HaveNames (length c.interfaces) to (interface_names c) (interface_names r)
  have-names i l = ap (λ (ns : List (List ℕ)). get_or ns (to.interfaces i) []) (names-are s c j q own is r put) ∙ found (slice_get c.interfaces i) refl
    where
      size : length (interface_names s) ≡ length s.interfaces
      size = length-map s.interfaces (full_name s)

      found : (o : Option Interface) → slice_get c.interfaces i ≡ o → get_or (interface_names s ++ own_interface_names c) (to.interfaces i) [] ≡ get_or (interface_names c) i []
      found None e = absurd (none-within c.interfaces i l e)
      found (Some x) e = by (before s c j q i (import_count c)) ∙ sym (name-get (full_name c) c.interfaces i x e)
        where
          by : (i < import_count c) ⊎ (import_count c + (i - import_count c) ≡ i) → get_or (interface_names s ++ own_interface_names c) (to.interfaces i) [] ≡ full_name c x
          by (inl b) =
              let f = import-found s c j q i x b e in
              get_or_append_left (interface_names s) (own_interface_names c) [] (to.interfaces i) (omega (arith, size, slice_get_within s.interfaces (to.interfaces i) f.one f.stands))
              ∙ (name-get (full_name s) s.interfaces (to.interfaces i) f.one f.stands ∙ name-found s c x f.one f.holds)
          by (inr g) =
              let k = i - import_count c in
              let here : slice_get (own_interfaces c) k ≡ Some x = slice_get-drop (import_count c) c.interfaces k ∙ (ap (slice_get c.interfaces) g ∙ e) in
              let at : to.interfaces i ≡ length (interface_names s) + k = ap to.interfaces (sym g) ∙ (interfaces-behind s c j q k (slice_get_within (own_interfaces c) k x here) ∙ ap (λ n. n + k) (sym size)) in
              ap (λ n. get_or (interface_names s ++ own_interface_names c) n []) at
              ∙ (get_or-append-add (interface_names s) (own_interface_names c) k [] ∙ name-get (full_name c) (own_interfaces c) k x here)

  -- .. and each of the set keeps its
  pub keep-names : HaveNames (length s.interfaces) in_place (interface_names s) (interface_names r)
  keep-names i l =
      ap (λ (ns : List (List ℕ)). get_or ns i []) (names-are s c j q own is r put)
      ∙ get_or_append_left (interface_names s) (own_interface_names c) [] i (omega (arith, l, length-map s.interfaces (full_name s)))

  abbrev pub set-trees : List Tree
  set-trees = references (interface_names r) [] s.definitions

  abbrev pub import-trees : List Tree
  import-trees = references (interface_names c) [] (take j.imported c.definitions)

  pub set-trees-are : set-trees ≡ trees s
  set-trees-are = references-stay (length s.interfaces) (interface_names s) (interface_names r) keep-names [] s.definitions (all-owned s set) s.earlier

  end-is : j.imported ≡ interfaces_end 0 (imports c)
  end-is =
      q.are_joined.imported_is
      ∙ omega (arith, length-rows s (length c.definitions) 0 (import_count c) c.interfaces c.worlds q.are_joined.places form.parted q.are_joined.found.count)

  pub agree : AreThere to.rows import-trees set-trees
  agree = imports-there (length c.interfaces) (length s.interfaces) to (interface_names c) (interface_names r) have-names s.definitions s.earlier (all-owned s set) [] (take j.imported c.definitions)
      (record { within = λ t l. absurd (omega arith); same = λ t l. absurd (omega arith) })
      (λ k d e. ap (λ n. slice_get s.definitions (to.rows n)) (omega arith) ∙ q.rows k d e)
      (owned-take (length c.interfaces) j.imported c.definitions (all-within c form closed)) (earlier-take 0 j.imported c.definitions c.earlier)

  length-import : j.imported ≤ length c.definitions → length import-trees ≡ j.imported
  length-import l = omega (arith, l, length-references (interface_names c) [] (take j.imported c.definitions), length-take j.imported c.definitions)

  pub own-behind-set : StandBehind to.rows (length import-trees) (length set-trees) (length (drop j.imported c.definitions))
  own-behind-set k l =
      let whole : j.imported ≤ length c.definitions = omega (arith, l, length-drop j.imported c.definitions) in
      let there : length s.definitions ≡ length set-trees = omega (arith, length-references (interface_names r) [] s.definitions) in
      ap (λ n. to.rows (n + k)) (length-import whole) ∙ (rows-behind s c j q k l ∙ ap (λ n. n + k) there)

  pub own-earlier : are_earlier (length import-trees) (drop j.imported c.definitions) ≡ true
  own-earlier = by (cut j.imported (length c.definitions))
    where
      cut : (n m : ℕ) → (n ≤ m) ⊎ (m < n)
      cut n m = grind arith

      none : (n : ℕ) (ds : List Definition) → length ds ≡ 0 → are_earlier n ds ≡ true
      none n [] e = refl
      none n (d ∷ ds) e = absurd (omega (arith, e))

      by : (j.imported ≤ length c.definitions) ⊎ (length c.definitions < j.imported) → are_earlier (length import-trees) (drop j.imported c.definitions) ≡ true
      by (inl l) = subst (λ n. are_earlier n (drop j.imported c.definitions) ≡ true) (omega (arith, length-import l)) (earlier-drop 0 j.imported c.definitions c.earlier)
      by (inr g) = none (length import-trees) (drop j.imported c.definitions) (omega (arith, g, length-drop j.imported c.definitions))

  pub own-within : AreOwnedWithin (length c.interfaces) (drop j.imported c.definitions)
  own-within = owned-drop (length c.interfaces) j.imported c.definitions (all-within c form closed)

  pub definitions-are : definitions r ≡ definitions s ++ own_definitions c
  definitions-are =
      let ms = interface_names r in
      let own-rows = map (put_row to) (drop j.imported c.definitions) in
      ap (λ (ds : List Definition). definitions_from ms [] ds) put.definitions
      ∙ (definitions-append ms [] s.definitions own-rows
      ∙ (ap (λ zs. zs ++ definitions_from ms set-trees own-rows) (definitions-stay (length s.interfaces) (interface_names s) ms keep-names [] s.definitions (all-owned s set) s.earlier)
      ∙ ap (λ zs. definitions s ++ zs)
      (definitions-there (length c.interfaces) to (interface_names c) ms have-names import-trees set-trees (drop j.imported c.definitions) agree own-behind-set own-within own-earlier ∙ sym (own-told c form closed j.imported end-is))))
