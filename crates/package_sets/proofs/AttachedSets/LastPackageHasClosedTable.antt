-- A package that was put behind a set is told again: the table of the set's last package is its closed table.
use Rattle.std.proofs.Common.{◌≡◌, ◌≤◌, ◌<◌, ◌⊎◌, inl, inr, ℕ, zero, suc, ◌+◌, ◌-◌, Bool, true, false, List, [], ◌∷◌, ◌++◌, length, map, take, drop, get_or, slice_get, Option, None, Some, refl, ap, sym, subst, ◌∙◌, arith, true≢false, eqb-true, eq-eqb, nat_le}
use Rattle.std.specs.Prelude.{Contains, flat_map}
use Rattle.std.specs.Option.{option_map}
use Rattle.std.specs.List.{list_all, items_where_true}
use Rattle.std.specs.Str.{bytes_eq}
use Rattle.std.proofs.lemmas.Bool.{ltb-true, lt-ltb, leb-true}
use Rattle.std.proofs.lemmas.List.{get_or-map, get_or_default, get_or_append_left, length-append, length-map, length-take, length-drop, take-append-drop}
use Rattle.std.proofs.Math.Seq.{get_or-append_seam}
use Rattle.std.proofs.lemmas.Option.{slice_get_within, get_or_from_slice_get}
use Rattle.std.proofs.lemmas.List.Elements.{Contains-append_cases, Contains-append_left, Contains-append_right}
use Rattle.std.proofs.lemmas.Slice.Eq.{bytes_eq-Decides}
use Rattle.canonical_abi.proofs.Traces.TracesLeaveImages.{slice_get-take, slice_get-drop}
use Rattle.package_form.specs.Closed.{own_package, has_each_package, is_world_of, has_own, are_of_a_set}
use Rattle.package_form.specs.Ends.{interfaces_end, are_worlds_parted}
use Rattle.package_form.specs.Form.{IsInPackageForm, ids_of}
use Rattle.package_form.specs.Reached.{used_in, name_of, name_at, named_interface, reached_by_row, reached_by_kind, reached_by_item, reached_by_world, is_interface_of}
use Rattle.package_form.specs.References.{row_references, type_references}
use Rattle.package_form.proofs.AllAndContains.{contains-map, contains-flat}
use Rattle.package_form.proofs.FullNamesStandForInterfaces.{package-there, some-package}
use Rattle.tables.specs.Tables.{is_below, definition_all, is_placed, is_placed_item, is_function_of, function_of, type_of}
use Rattle.tables.specs.PackageNames.{PackageParts}
use Rattle.tables.specs.Same.{IsSamePackage}
use Rattle.tables.proofs.ClosedTypesRowByRow.{split}
use Rattle.tables.specs.declared.tables.TypeId.{TypeId}
use Rattle.tables.specs.declared.tables.FunctionId.{FunctionId}
use Rattle.tables.specs.declared.tables.TypeName.{TypeName}
use Rattle.tables.specs.declared.tables.TypeDef.{TypeDef}
use Rattle.tables.specs.declared.tables.ValType.{ValType}
use Rattle.tables.specs.declared.tables.ValType.TheVariants as val
use Rattle.tables.specs.declared.tables.Owner.{Owner}
use Rattle.tables.specs.declared.tables.Owner.TheVariants as owner
use Rattle.tables.specs.declared.tables.Definition.{Definition}
use Rattle.tables.specs.declared.tables.Definition.TheVariants as row
use Rattle.tables.specs.declared.tables.Interface.{Interface}
use Rattle.tables.specs.declared.tables.World.{World}
use Rattle.tables.specs.declared.tables.WorldItem.{WorldItem}
use Rattle.tables.specs.declared.tables.WorldItemKind.{WorldItemKind}
use Rattle.tables.specs.declared.tables.WorldItemKind.TheVariants as item
use Rattle.tables.specs.declared.tables.Resolve.{Resolve}
use Rattle.package_sets.specs.Attached.{IsOwn}
use Rattle.package_sets.specs.BehindImports.{HasImportTable}
use Rattle.package_sets.specs.Follows.{OfImports, BeginsWith}
use Rattle.package_sets.specs.Imports.{IsImportsOf}
use Rattle.package_sets.specs.Joined.{renaming_of, IsJoined}
use Rattle.package_sets.proofs.AttachedSets.PutBehind.{IsPut}
use Rattle.package_sets.specs.Joining.{import_count, imports, own_interfaces, import_rows, joined, are_same_packages, HasIds}
use Rattle.set_rows.specs.Moved.{Renaming, put_id, put_interface, put_item, put_item_kind, put_world, put_row, put_types, put_functions}
use Rattle.package_sets.specs.NamedIn.{own_rows, own_reached, IsImportAt, AreNamedIn}
use Rattle.set_rows.specs.Owners.{owners, names, names_or}
use Rattle.tables.specs.Names.{owner_of}
use Rattle.package_sets.specs.Part.{IsPart, IsTableOf}
use Rattle.set_rows.specs.Places.{place}
use Rattle.set_rows.specs.Reaches.{Marks, is_marked, own_marks, given_marks, item_owners, owners_in, world_owners, owner_at, named_owners, OfPackage, OfInterfaces, Reaches, of_start, of_row, AreReached}
use Rattle.set_rows.specs.Renamed.{renaming}
use Rattle.package_sets.specs.Restricted.{IsReachedIn, AreNeeded, number_or, package_of_owner, IsNeeded}
use Rattle.package_sets.specs.Set.{HasRowsInForm}
use Rattle.package_sets.specs.SetForm.{IsInSetForm}
use Rattle.package_sets.specs.Tower.{IsInTower}
use Rattle.package_sets.specs.Joined.{JoinedPlaces}
use Rattle.set_rows.specs.declared.moved.Moved.{Moved}
use Rattle.package_sets.proofs.AttachedSets.NamesTellTheSet.{same-packages}
use Rattle.package_sets.proofs.AttachedSets.OwnPartStandsBehind.{own-behind, rows-behind, interfaces-behind, worlds-behind, import-found, interface-below, rows-there}
use Rattle.package_sets.proofs.OwnedRows.EachRowHasAnOwner.{Belongs, belongs, owner-some}
use Rattle.package_sets.proofs.AttachedSets.ReachesItsClosedTable as covering
use Rattle.package_sets.proofs.FoundImports.ImportsAreFound.{found-same, renaming-is}
use Rattle.package_sets.proofs.FoundImports.HasAllImports as found
use Rattle.package_sets.proofs.MovedRows.IdsOfInterfaces.{id-there}
use Rattle.package_sets.proofs.KeptParts.MarksOfRisingPlaces.{AreImages, mark-within, image-place, kept-is, same-lists, rising-by, images-length}
use Rattle.package_sets.proofs.FoundImports.OfImports.{given-there, follows}
use Rattle.package_sets.proofs.AttachedSets.IsInTower as in-tower
use Rattle.package_sets.proofs.AttachedSets.IsInTower.{IsOf}
use Rattle.set_rows.proofs.KeptElementsAndPlaces.{kept-at, place-order}
use Rattle.package_sets.proofs.KeptParts.PropertiesOfKept.{interface-in, list-at, placed-at}
use Rattle.package_sets.proofs.GrowingLists.{map-get, map-unget, front-get, behind-get, one-there, get-contains, contains-get, contains-unflat}
use Rattle.package_sets.proofs.KeptParts.PlacesOfKept.{marked_places, marked-at, length-marked, was-kept}
use Rattle.package_sets.proofs.AttachedSets.RowsKeepTheirMeaning.{all-worlds}
use Rattle.package_sets.proofs.MovedRows.WhatRowsName.{definition-all, named-before, names-put}
use Rattle.package_sets.proofs.AttachedSets.NamesEarlierPackages as ordering
use Rattle.set_rows.proofs.OwnersOfRows.{length-owners}
use Rattle.package_sets.proofs.OwnedRows.RowsAreOwned.{cut, IsOwnedFrom, IsOfWorlds, parted-worlds}
use Rattle.package_sets.proofs.AttachedSets.IsPackageByPackage.{own-stand}
use Rattle.package_sets.proofs.ReachedParts.ReachedIsPart.{package-part, interfaces-part, no-world}
use Rattle.package_sets.proofs.KeptParts.KeptIsATable as restricting
use Rattle.package_sets.proofs.MovedRows.MovedBackIsSame.{IsBack, ComesBack, row-back, types-back, functions-back}
use Rattle.package_sets.proofs.KeptParts.KeptIsPackageByPackage.{interface-mark}

-- ---- lists

split-last : {A : Type 0} (xs : List A) (k : ℕ) (x : A) → slice_get xs k ≡ Some x → length xs ≡ k + 1 → xs ≡ take k xs ++ x ∷ []
split-last [] k x e l = absurd (omega (arith, l))
split-last (y ∷ []) zero x e l = let same : y ≡ x = cc in ap (λ z. z ∷ []) same
split-last (y ∷ z ∷ xs) zero x e l = absurd (omega (arith, l))
split-last (y ∷ xs) (suc k) x e l = ap (λ ys. y ∷ ys) (split-last xs k x e (omega (arith, l)))

-- each package before the last has an interface
has-one : (last next : ℕ) (is : List Interface) → has_each_package last next is ≡ true → (t : ℕ) → next ≤ t → t < last → (k : ℕ) × (i : Interface) × (slice_get is k ≡ Some i) × (i.«package».0 ≡ t)
has-one last next [] h t l b = absurd (omega (arith, leb-true last next h, l, b))
has-one last next (i ∷ is) h t l b =
    let p = split (nat_le i.«package».0 next) (has_each_package last (i.«package».0 + 1) is) h in
    elim (cut t (i.«package».0 + 1)) [
      | inl g ↦ (0, i, refl, omega (arith, leb-true i.«package».0 next p.0, g, l))
      | inr g ↦ (let r = has-one last (i.«package».0 + 1) is p.1 t g b in (suc r.0, r.1, r.2, r.3))
    ]

-- ---- a row that uses a name

record Uses (rows : List Definition) (d : Definition) (m : ℕ) : Type 0 where
  pub id : TypeId
  pub uses : used_in d ≡ Some id
  pub one : TypeDef
  pub at : slice_get rows id.0 ≡ Some (row.Type one)
  pub name : TypeName
  pub named : one.name ≡ Some name
  pub of : name.interface.0 ≡ m

row-uses : (rows : List Definition) (d : Definition) (m : ℕ) → Contains (reached_by_row rows d) m → Uses rows d m
row-uses rows d m c = by (used_in d) refl c
  where
    third : (t : TypeId) (x : TypeDef) (n : Option TypeName) → used_in d ≡ Some t → slice_get rows t.0 ≡ Some (row.Type x) → x.name ≡ n → Contains (named_interface n) m → Uses rows d m
    third t x None u a e (k, l, g) = absurd (omega (arith, l))
    third t x (Some n) u a e (zero, l, g) = record { id = t; uses = u; one = x; at = a; name = n; named = e; of = g }
    third t x (Some n) u a e (suc k, l, g) = absurd (omega (arith, l))

    second : (t : TypeId) (o : Option Definition) → used_in d ≡ Some t → slice_get rows t.0 ≡ o → Contains (named_interface (name_of (type_of o))) m → Uses rows d m
    second t None u a (k, l, g) = absurd (omega (arith, l))
    second t (Some (row.Function f)) u a (k, l, g) = absurd (omega (arith, l))
    second t (Some (row.Type x)) u a h = third t x x.name u a refl h

    by : (o : Option TypeId) → used_in d ≡ o → Contains (named_interface (name_at rows o)) m → Uses rows d m
    by None u (k, l, g) = absurd (omega (arith, l))
    by (Some t) u h = second t (slice_get rows t.0) u refl h

module _ (s c : Resolve) (j : JoinedPlaces) (q : IsJoined s c j) (own : PackageParts) (is : IsOwn c own) (r : Resolve) (put : IsPut s c own j r) (tower : IsInTower s) (closed : IsInPackageForm c) (there : IsInSetForm r)
    (packages interfaces : List Bool) (named : AreNamedIn c s packages interfaces) (im : Resolve) (n : IsImportsOf s packages interfaces im) (h : HasImportTable c im) where
  abbrev to : Renaming
  to = renaming_of j

  abbrev new : ℕ
  new = length s.packages

  form : HasRowsInForm c
  form = record { parted = closed.parted; interfaces = closed.interfaces; items = closed.worlds }

  abbrev own-put : List Interface
  own-put = map (put_interface to) (own_interfaces c)

  abbrev worlds-put : List World
  worlds-put = map (put_world to) c.worlds

  -- ---- its imports are what is kept of the set

  abbrev moved : Moved
  moved = n.to

  abbrev part : IsPart s moved
  part = interfaces-part s packages interfaces moved n.kept

  none : (k : ℕ) → get_or moved.worlds k false ≡ true → ⊥
  none = no-world s packages interfaces moved n.kept

  its : OfImports s packages interfaces im n
  its = follows s packages interfaces im n

  count-packages : length c.packages ≡ length im.packages + 1
  count-packages = omega (arith, ap length h.packages, length-take (own_package c.packages) c.packages, some-package c closed.closed)

  own-last : (k : ℕ) (i : Interface) → slice_get c.interfaces (import_count c + k) ≡ Some i → i.«package».0 ≡ length im.packages
  own-last k i e = omega (arith, count-packages, own-behind (length c.packages) 0 c.interfaces c.grouped k i e)

  abbrev begins : BeginsWith im c
  begins = record {
    own = own;
    interfaces = own_interfaces c;
    rows = drop (length im.definitions) c.definitions;
    packages_are = split-last c.packages (own_package c.packages) own is (omega (arith, count-packages)) ∙ ap (λ (ps : List PackageParts). ps ++ own ∷ []) h.packages;
    interfaces_are = sym (take-append-drop (import_count c) c.interfaces) ∙ ap (λ (xs : List Interface). xs ++ own_interfaces c) h.interfaces;
    rows_are = sym (take-append-drop (length im.definitions) c.definitions) ∙ ap (λ (ds : List Definition). ds ++ drop (length im.definitions) c.definitions) h.rows;
    of_last = λ i d. let k = contains-get (own_interfaces c) i d in own-last k.0 i (sym (slice_get-drop (import_count c) c.interfaces k.0) ∙ k.1);
  }

  abbrev places : List ℕ
  places = marked_places 0 moved.interfaces

  places-are : q.are_joined.places ≡ places
  places-are = found-same s c (imports c) q.are_joined.places places q.are_joined.found
      (found.imports-found s moved part tower.form.rows tower.form.apart none im n.table its.worlds_are (its.in_form tower.form.rows) c begins)

  moved-is : to ≡ joined s c places
  moved-is = renaming-is s c j q.are_joined ∙ ap (joined s c) places-are

  record IsImport (t : ℕ) (i : Interface) : Type 0 where
    pub one : Interface
    pub from : ℕ
    pub marked : get_or moved.interfaces from false ≡ true
    pub stood : slice_get s.interfaces from ≡ Some one
    pub put_is : put_interface (renaming moved) one ≡ i
    pub at : to.interfaces t ≡ from
    pub back : place moved.interfaces from ≡ t

  import-at : (t : ℕ) (i : Interface) → t < import_count c → slice_get c.interfaces t ≡ Some i → IsImport t i
  import-at t i l e =
      let here : slice_get im.interfaces t ≡ Some i = ap (λ (xs : List Interface). slice_get xs t) (sym h.interfaces) ∙ (slice_get-take (import_count c) c.interfaces t l ∙ e) in
      let o = found.one-of s moved part tower.form.rows tower.form.apart none im n.table its.worlds_are (its.in_form tower.form.rows) c begins t i here in
      record {
        one = o.one;
        from = o.from;
        marked = o.marked;
        stood = o.stood;
        put_is = o.put;
        at = ap (λ (p : Renaming). p.interfaces t) moved-is
            ∙ (ap (λ (k : ℕ). (joined s c places).interfaces k) (sym o.is) ∙ found.interface-found s moved part tower.form.rows tower.form.apart none im n.table its.worlds_are (its.in_form tower.form.rows) c begins o.from o.one o.stood o.marked);
        back = o.is;
      }

  record IsImportRow (t : ℕ) : Type 0 where
    pub one : Definition
    pub from : ℕ
    pub marked : get_or moved.rows from false ≡ true
    pub stood : slice_get s.definitions from ≡ Some one
    pub at : to.rows t ≡ from
    pub back : place moved.rows from ≡ t

  count-rows : j.imported ≡ length im.definitions
  count-rows = q.are_joined.imported_is
      ∙ (ap (λ (ps : List ℕ). length (import_rows s c ps)) places-are ∙ found.length-is s moved part tower.form.rows tower.form.apart none im n.table its.worlds_are (its.in_form tower.form.rows) c begins)

  import-row-at : (t : ℕ) → t < j.imported → IsImportRow t
  import-row-at t l =
      let d = one-there im.definitions t (omega (arith, l, count-rows)) in
      let u = map-unget (put_row (renaming moved)) (items_where_true moved.rows s.definitions) t d.0 (ap (λ (ds : List Definition). slice_get ds t) (sym n.table.definitions) ∙ d.1) in
      let w = was-kept moved.rows s.definitions t u.0 u.1 in
      record {
        one = u.0;
        from = w.from;
        marked = w.marked;
        stood = w.stood;
        at = ap (λ (p : Renaming). p.rows t) moved-is
            ∙ (ap (λ (k : ℕ). (joined s c places).rows k) (sym w.is) ∙ found.row-found s moved part tower.form.rows tower.form.apart none im n.table its.worlds_are (its.in_form tower.form.rows) c begins w.from u.0 w.stood w.marked);
        back = w.is;
      }

  -- ---- places rise

  own-row : (t : ℕ) → j.imported ≤ t → t < length c.definitions → to.rows t ≡ length s.definitions + (t - j.imported)
  own-row t l k =
      let at : j.imported + (t - j.imported) ≡ t = omega (arith, l) in
      ap to.rows (sym at) ∙ rows-behind s c j q (t - j.imported) (omega (arith, l, k, length-drop j.imported c.definitions))

  rows-rise : (t u : ℕ) → t < u → u < length c.definitions → to.rows t < to.rows u
  rows-rise = rising-by to.rows (place moved.rows) j.imported (length s.definitions) (length c.definitions)
      (λ t l k. let a = import-row-at t l in (omega (arith, a.at, slice_get_within s.definitions a.from a.one a.stood), ap (place moved.rows) a.at ∙ a.back)) (place-order moved.rows) own-row

  own-place : (t : ℕ) → import_count c ≤ t → t < length c.interfaces → to.interfaces t ≡ length s.interfaces + (t - import_count c)
  own-place t l k =
      let at : import_count c + (t - import_count c) ≡ t = omega (arith, l) in
      ap to.interfaces (sym at) ∙ interfaces-behind s c j q (t - import_count c) (omega (arith, l, k, length-drop (import_count c) c.interfaces))

  interfaces-rise : (t u : ℕ) → t < u → u < length c.interfaces → to.interfaces t < to.interfaces u
  interfaces-rise = rising-by to.interfaces (place moved.interfaces) (import_count c) (length s.interfaces) (length c.interfaces)
      (λ t l k. let i = one-there c.interfaces t k in let a = import-at t i.0 l i.1 in (omega (arith, a.at, slice_get_within s.interfaces a.from a.one a.stood), ap (place moved.interfaces) a.at ∙ a.back)) (place-order moved.interfaces) own-place

  worlds-rise : (t u : ℕ) → t < u → u < length c.worlds → to.worlds t < to.worlds u
  worlds-rise t u l k = omega (arith, worlds-behind s c j q t (omega (arith, l, k)), worlds-behind s c j q u k, l)

  -- ---- what the package reaches

  count-interfaces : length r.interfaces ≡ length s.interfaces + length own-put
  count-interfaces = ap length put.interfaces ∙ length-append s.interfaces own-put

  count-worlds : length r.worlds ≡ length s.worlds + length worlds-put
  count-worlds = ap length put.worlds ∙ length-append s.worlds worlds-put

  abbrev IsReached : Option Owner → Type 0
  IsReached o = Reaches r (OfPackage new) o

  interface-started : (k : ℕ) → length s.interfaces ≤ k → k < length r.interfaces → IsReached (Some (owner.Interface (record { 0 = k })))
  interface-started k l m =
      let x = one-there r.interfaces k m in
      let number : package_of_owner r (Some (owner.Interface (record { 0 = k }))) ≡ x.0.«package».0 = ap (λ (o : Option Interface). number_or (option_map (λ y. y.«package».0) o)) x.1 in
      let same : x.0.«package».0 ≡ new = sym number ∙ ordering.own-interface s c j q own r put k l (omega (arith, m, count-interfaces)) in
      of_start (Some (owner.Interface (record { 0 = k }))) (inl (get_or-map (is_interface_of new) r.interfaces k x.0 true m ∙ (ap (is_interface_of new) (get_or_from_slice_get r.interfaces k x.0 x.0 x.1) ∙ eq-eqb x.0.«package».0 new same)))

  world-started : (k : ℕ) → length s.worlds ≤ k → k < length r.worlds → IsReached (Some (owner.World (record { 0 = k })))
  world-started k l m =
      let x = one-there r.worlds k m in
      let number : package_of_owner r (Some (owner.World (record { 0 = k }))) ≡ x.0.«package».0 = ap (λ (o : Option World). number_or (option_map (λ y. y.«package».0) o)) x.1 in
      let same : x.0.«package».0 ≡ new = sym number ∙ ordering.own-world s c j q own r put k l (omega (arith, m, count-worlds)) in
      of_start (Some (owner.World (record { 0 = k }))) (inl (get_or-map (is_world_of new) r.worlds k x.0 true m ∙ (ap (is_world_of new) (get_or_from_slice_get r.worlds k x.0 x.0 x.1) ∙ eq-eqb x.0.«package».0 new same)))

  -- the rows behind the set's are of what is its own
  own-row-reached : (k : ℕ) (x : Definition) → length s.definitions ≤ k → slice_get r.definitions k ≡ Some x → IsReached (get_or (owners r.definitions) k None)
  own-row-reached k x l e =
      let same : get_or (owners r.definitions) k None ≡ get_or (owners (rows-there s c j q)) k None = ap (λ (ds : List Definition). get_or (owners ds) k None) put.definitions in
      subst (λ (o : Option Owner). IsReached o) (sym same)
      (by (belongs (rows-there s c j q) (length s.definitions) (0 + length s.interfaces) own-put (0 + length s.worlds) worlds-put (own-stand s c j q form) k x l (ap (λ (ds : List Definition). slice_get ds k) (sym put.definitions) ∙ e)))
    where
      by : Belongs (rows-there s c j q) (0 + length s.interfaces) (0 + length s.interfaces + length own-put) (0 + length s.worlds) (0 + length s.worlds + length worlds-put) k x → IsReached (get_or (owners (rows-there s c j q)) k None)
      by (inl a) = subst (λ (o : Option Owner). IsReached o) (sym a.owned) (interface-started a.interface (omega (arith, a.begins)) (omega (arith, a.ends, count-interfaces)))
      by (inr a) = subst (λ (o : Option Owner). IsReached o) (sym a.owned) (world-started a.world (omega (arith, a.begins)) (omega (arith, a.ends, count-worlds)))

  row-at : (t : ℕ) (d : Definition) → slice_get c.definitions t ≡ Some d → slice_get r.definitions (to.rows t) ≡ Some (put_row to d)
  row-at = covering.row-at s c j q own r put tower.form closed there

  -- an interface that an own row uses
  row-reaches : (t : ℕ) (d : Definition) → j.imported ≤ t → slice_get c.definitions t ≡ Some d → (m : ℕ) → Contains (reached_by_row c.definitions d) m → IsReached (Some (owner.Interface (record { 0 = to.interfaces m })))
  row-reaches t d l e m has =
      let u = row-uses c.definitions d m has in
      let within = slice_get_within c.definitions t d e in
      let own-one = own-row-reached (to.rows t) (put_row to d) (omega (arith, own-row t l within)) (row-at t d e) in
      let id : TypeId = put_id to u.id in
      let names-it : Contains (names d) u.id = by (used_in d) u.uses in
      let put-names : Contains (names (put_row to d)) id = subst (λ (ts : List TypeId). Contains ts id) (sym (names-put to d)) (contains-map (put_id to) (names d) u.id names-it) in
      let o : Owner = owner.Interface (record { 0 = to.interfaces u.name.interface.0 }) in
      let owned : owner_of (row.Type u.one) ≡ Some (owner.Interface u.name.interface) = ap (option_map (λ x. owner.Interface x.interface)) u.named in
      let is-owner : get_or (owners r.definitions) (to.rows u.id.0) None ≡ Some o =
      owner-some r.definitions (to.rows u.id.0) (put_row to (row.Type u.one)) o (row-at u.id.0 (row.Type u.one) u.at) (covering.owner-put to (row.Type u.one) (owner.Interface u.name.interface) owned) in
      let contains : Contains (named_owners (owners r.definitions) (put_row to d)) (Some o) =
      subst (λ (x : Option Owner). Contains (named_owners (owners r.definitions) (put_row to d)) x) is-owner (contains-map (owner_at (owners r.definitions)) (names (put_row to d)) id put-names) in
      subst (λ (k : ℕ). IsReached (Some (owner.Interface (record { 0 = to.interfaces k })))) u.of (of_row (to.rows t) (put_row to d) (Some o) (row-at t d e) own-one contains)
    where
      by : {x : TypeId} (o : Option TypeId) → o ≡ Some x → Contains (names_or o (row_references d)) x
      by None g = absurd (cc)
      by {x} (Some y) g = let same : y ≡ x = cc in (0, omega arith, same)

  -- .. or that an item of a world is
  world-reaches : (w : World) → Contains c.worlds w → (m : ℕ) → Contains (reached_by_world w) m → IsReached (Some (owner.Interface (record { 0 = to.interfaces m })))
  world-reaches w has m d =
      let i = contains-unflat reached_by_item w.items m d in
      let at = contains-get c.worlds w has in
      let o : Option Owner = Some (owner.Interface (record { 0 = to.interfaces m })) in
      let item-has : Contains (owners_in (put_item to i.0)) o = kind i.0.kind i.2 in
      let items-have : Contains (flat_map owners_in (map (put_item to) w.items)) o = contains-flat owners_in (map (put_item to) w.items) (put_item to i.0) o (contains-map (put_item to) w.items i.0 i.1) item-has in
      let there-at : slice_get r.worlds (length s.worlds + at.0) ≡ Some (put_world to w) =
      ap (λ (ws : List World). slice_get ws (length s.worlds + at.0)) put.worlds ∙ (behind-get s.worlds worlds-put at.0 ∙ map-get (put_world to) c.worlds at.0 w at.1) in
      of_start o (inr (contains-flat (world_owners new) r.worlds (put_world to w) o (get-contains r.worlds (length s.worlds + at.0) (put_world to w) there-at) (own-items (put_world to w) o items-have (eq-eqb j.«package» new q.are_joined.package_is))))
    where
      kind : (k : WorldItemKind) → Contains (reached_by_kind k) m → Contains (item_owners (put_item_kind to k)) (Some (owner.Interface (record { 0 = to.interfaces m })))
      kind (item.Function f) (k, l, e) = absurd (omega (arith, l))
      kind (item.Interface x) (suc k, l, e) = absurd (omega (arith, l))
      kind (item.Interface x) (zero, l, e) = (0, omega arith, ap (λ (k : ℕ). Some (owner.Interface (record { 0 = to.interfaces k }))) e)

      own-items : (x : World) (o : Option Owner) → Contains (flat_map owners_in x.items) o → is_world_of new x ≡ true → Contains (world_owners new x) o
      own-items x o co z = rw z co

  ends : interfaces_end 0 (imports c) ≡ j.imported
  ends =
      ap (interfaces_end 0) h.interfaces
      ∙ (eqb-true (interfaces_end 0 im.interfaces) (length im.definitions)
      (subst (λ (ws : List World). are_worlds_parted (length im.definitions) (interfaces_end 0 im.interfaces) ws ≡ true) its.worlds_are (parted-worlds (length im.definitions) 0 im.interfaces im.worlds (its.in_form tower.form.rows).parted)) ∙ sym count-rows)

  own-reached : (m : ℕ) → Contains (own_reached c) m → IsReached (Some (owner.Interface (record { 0 = to.interfaces m })))
  own-reached m d = elim (Contains-append_cases (flat_map (reached_by_row c.definitions) (own_rows c)) (flat_map reached_by_world c.worlds) m d) [
    | inl g ↦
        let x = contains-unflat (reached_by_row c.definitions) (own_rows c) m g in
        let k = contains-get (own_rows c) x.0 x.1 in
        let e = interfaces_end 0 (imports c) in
        row-reaches (e + k.0) x.0 (omega (arith, ends)) (sym (slice_get-drop e c.definitions k.0) ∙ k.1) m x.2
    | inr g ↦ (let w = contains-unflat reached_by_world c.worlds m g in world-reaches w.0 w.1 m w.2)
  ]

  -- an interface of the set that is named
  named-reached : (k : ℕ) → k < length s.interfaces → get_or interfaces k false ≡ true → IsReached (Some (owner.Interface (record { 0 = k })))
  named-reached k l g =
      let x = one-there s.interfaces k l in
      let p = package-there s.packages x.0.«package».0 (interface-in s k x.0 x.1) in
      let a = (named.interfaces_are k x.0 p.0 x.1 p.1).0 g in
      by x.0 x.1 p.0 p.1 a.0 a.1 a.2 (cut a.0 (import_count c))
    where
      by : (x : Interface) → slice_get s.interfaces k ≡ Some x → (p : PackageParts) → slice_get s.packages x.«package».0 ≡ Some p → (m : ℕ) → Contains (own_reached c) m → (a : IsImportAt c p x.name m)
          → (m < import_count c) ⊎ (import_count c ≤ m) → IsReached (Some (owner.Interface (record { 0 = k })))
      by x e p f m d a (inr b) =
          let at : import_count c + (m - import_count c) ≡ m = omega (arith, b) in
          absurd (omega (arith, a.other, count-packages, own-last (m - import_count c) a.interface (ap (slice_get c.interfaces) at ∙ a.at)))
      by x e p f m d a (inl b) =
          let first = import-found s c j q m a.interface b a.at in
          let both = split (are_same_packages (slice_get c.packages a.interface.«package».0) (slice_get s.packages first.one.«package».0)) (bytes_eq a.interface.name first.one.name) first.holds in
          let of : slice_get s.packages first.one.«package».0 ≡ slice_get s.packages x.«package».0 = sym (same-packages _ _ both.0) ∙ (a.of ∙ sym f) in
          let name : first.one.name ≡ x.name = sym ((bytes_eq-Decides a.interface.name first.one.name).0 both.1) ∙ a.named in
          let same : to.interfaces m ≡ k = tower.form.apart.each (to.interfaces m) k first.one x first.stands e of name in
          subst (λ (i : ℕ). IsReached (Some (owner.Interface (record { 0 = i })))) same (own-reached m d)

  started : (o : Option Owner) → IsOf s o → is_marked (given_marks s interfaces) o ≡ true → IsReached o
  started None l e = of_start None (inl refl)
  started (Some (owner.Interface i)) l e = named-reached i.0 l (given-there (length s.interfaces) interfaces i.0 l e)
  started (Some (owner.World w)) l e = absurd (true≢false (sym (given-there (length s.worlds) [] w.0 l e)))

  -- whatever the set reaches from there
  reached-there : (o : Option Owner) → IsOf s o → Reaches s (OfInterfaces interfaces) o → IsReached o
  reached-there o l (of_start _ e) = started o l e
  reached-there o l (of_row k d _ at from m) =
      of_row k d o (covering.set-row s c j q own r put tower.form closed there k (slice_get_within s.definitions k d at) ∙ at)
      (subst (λ (x : Option Owner). IsReached x) (sym (in-tower.same-owner s c j q own r put tower closed there k d at)) (reached-there _ (in-tower.owner-in s c j q own r put tower closed there k d at) from))
      (subst (λ (os : List (Option Owner)). Contains os o) (sym (in-tower.same-named s c j q own r put tower closed there k d at)) m)

  interface-there : (t : ℕ) → t < length c.interfaces → to.interfaces t < length r.interfaces
  interface-there t l = omega (arith, interface-below s c j q t l, ap length put.interfaces)

  interface-reached : (t : ℕ) → t < length c.interfaces → IsReached (Some (owner.Interface (record { 0 = to.interfaces t })))
  interface-reached t l = elim (cut t (import_count c)) [
    | inl b ↦
        let i = one-there c.interfaces t l in
        let a = import-at t i.0 b i.1 in
        let within = slice_get_within s.interfaces a.from a.one a.stood in
        subst (λ (k : ℕ). IsReached (Some (owner.Interface (record { 0 = k })))) (sym a.at)
        (reached-there (Some (owner.Interface (record { 0 = a.from }))) within (n.kept.are_reached.sound (Some (owner.Interface (record { 0 = a.from }))) (interface-mark s moved part a.from within ∙ a.marked)))
    | inr b ↦ interface-started (to.interfaces t) (omega (arith, own-place t b l)) (interface-there t l)
  ]

  row-reached : (t : ℕ) (d : Definition) → slice_get c.definitions t ≡ Some d → IsReached (get_or (owners r.definitions) (to.rows t) None)
  row-reached t d e = elim (cut t j.imported) [
    | inl b ↦
        let a = import-row-at t b in
        let within = slice_get_within s.definitions a.from a.one a.stood in
        let set-owner = get_or (owners s.definitions) a.from None in
        let reaches = reached-there set-owner (in-tower.owner-in s c j q own r put tower closed there a.from a.one a.stood) (n.kept.are_reached.sound set-owner (sym (restricting.mark-at s moved part a.from within) ∙ a.marked)) in
        subst (λ (k : ℕ). IsReached (get_or (owners r.definitions) k None)) (sym a.at) (subst (λ (x : Option Owner). IsReached x) (sym (in-tower.same-owner s c j q own r put tower closed there a.from a.one a.stood)) reaches)
    | inr b ↦ own-row-reached (to.rows t) (put_row to d) (omega (arith, own-row t b (slice_get_within c.definitions t d e))) (row-at t d e)
  ]

  -- ---- the package's table

  module _ (R : Resolve) (back : Moved) (need : IsNeeded r new back) (table : IsTableOf r back R) where
    abbrev m : Marks
    m = need.marks

    abbrev a : AreReached r (OfPackage new) m
    a = need.are_reached

    abbrev needed : List Bool
    needed = back.packages

    abbrev b : AreNeeded r new m needed
    b = need.packages_are

    abbrev whole : IsPart r back
    whole = package-part r new back need

    counted : length back.interfaces ≡ length r.interfaces
    counted = ap length need.interfaces_are ∙ a.count

    rows-counted : length back.rows ≡ length r.definitions
    rows-counted = ap length need.rows_are ∙ (length-map (owners r.definitions) (is_marked m) ∙ length-owners r.definitions)

    worlds-counted : length back.worlds ≡ length r.worlds
    worlds-counted = ap length need.worlds_are ∙ length-map r.worlds (is_world_of new)

    rows-images : AreImages back.rows to.rows (length c.definitions)
    rows-images = record { rising = rows-rise; marked = marked; only = only }
      where
        marked : (t : ℕ) → t < length c.definitions → get_or back.rows (to.rows t) false ≡ true
        marked t l =
            let d = one-there c.definitions t l in
            restricting.mark-at r back whole (to.rows t) (slice_get_within r.definitions (to.rows t) (put_row to d.0) (row-at t d.0 d.1)) ∙ a.complete _ (row-reached t d.0 d.1)

        only : (k : ℕ) → get_or back.rows k false ≡ true → (t : ℕ) × (t < length c.definitions) × (to.rows t ≡ k)
        only k e =
            let l : k < length r.definitions = omega (arith, mark-within back.rows k e, rows-counted) in
            let x = one-there r.definitions k l in
            let o = get_or (owners r.definitions) k None in
            let p = covering.placed s c j q own r put tower.form closed there k x.0 x.1 (covering.reached-here s c j q own r put tower.form closed there o (a.sound o (sym (restricting.mark-at r back whole k l) ∙ e))) in
            (p.from, slice_get_within c.definitions p.from p.one p.at, p.is)

    interfaces-images : AreImages back.interfaces to.interfaces (length c.interfaces)
    interfaces-images = record {
      rising = interfaces-rise;
      marked = λ t l. restricting.interface-there r back whole (to.interfaces t) (interface-there t l) (a.complete _ (interface-reached t l));
      only = λ k e. only k (ap (λ (bs : List Bool). get_or bs k false) (sym need.interfaces_are) ∙ e) (omega (arith, mark-within back.interfaces k e, counted));
    }
      where
        only : (k : ℕ) → get_or m.interfaces k false ≡ true → k < length r.interfaces → (t : ℕ) × (t < length c.interfaces) × (to.interfaces t ≡ k)
        only k e l =
            let o : Option Owner = Some (owner.Interface (record { 0 = k })) in
            covering.reached-here s c j q own r put tower.form closed there o (a.sound o (get_or_default m.interfaces k true false (omega (arith, l, a.count)) ∙ e)) l

    world-at : (t : ℕ) (w : World) → slice_get c.worlds t ≡ Some w → slice_get r.worlds (to.worlds t) ≡ Some (put_world to w)
    world-at t w e =
        ap (λ (ws : List World). slice_get ws (to.worlds t)) put.worlds
        ∙ (ap (slice_get (s.worlds ++ worlds-put)) (worlds-behind s c j q t (slice_get_within c.worlds t w e)) ∙ (behind-get s.worlds worlds-put t ∙ map-get (put_world to) c.worlds t w e))

    worlds-images : AreImages back.worlds to.worlds (length c.worlds)
    worlds-images = record { rising = worlds-rise; marked = marked; only = only }
      where
        marked : (t : ℕ) → t < length c.worlds → get_or back.worlds (to.worlds t) false ≡ true
        marked t l =
            let w = one-there c.worlds t l in
            let at = world-at t w.0 w.1 in
            ap (λ (bs : List Bool). get_or bs (to.worlds t) false) need.worlds_are
            ∙ (get_or-map (is_world_of new) r.worlds (to.worlds t) (put_world to w.0) false (slice_get_within r.worlds (to.worlds t) (put_world to w.0) at)
            ∙ (ap (is_world_of new) (get_or_from_slice_get r.worlds (to.worlds t) (put_world to w.0) (put_world to w.0) at) ∙ eq-eqb j.«package» new q.are_joined.package_is))

        only : (k : ℕ) → get_or back.worlds k false ≡ true → (t : ℕ) × (t < length c.worlds) × (to.worlds t ≡ k)
        only k e =
            let l : k < length r.worlds = omega (arith, mark-within back.worlds k e, worlds-counted) in
            let marked : is_marked (own_marks r new) (Some (owner.World (record { 0 = k }))) ≡ true = get_or_default (map (is_world_of new) r.worlds) k true false (omega (arith, l, length-map r.worlds (is_world_of new))) ∙ (ap (λ (bs : List Bool). get_or bs k false) (sym need.worlds_are) ∙ e) in
            let behind = covering.own-marked s c j q own r put tower.form closed there (Some (owner.World (record { 0 = k }))) marked l in
            let within : k - length s.worlds < length c.worlds = omega (arith, l, behind, count-worlds, length-map c.worlds (put_world to)) in
            (k - length s.worlds, within, worlds-behind s c j q (k - length s.worlds) within ∙ omega (arith, behind))

    -- ---- packages

    abbrev package-places : ℕ → ℕ
    package-places t = get_or (marked_places 0 moved.packages ++ new ∷ []) t 0

    count-marked : length (marked_places 0 moved.packages) ≡ length im.packages
    count-marked = length-marked 0 moved.packages s.packages n.kept.packages_are.count ∙ sym (ap length n.table.packages)

    none-plus : (k : ℕ) → 0 + k ≡ k
    none-plus k = omega arith

    -- a package that is imported from
    needed-place : (k : ℕ) → get_or moved.packages k false ≡ true → place moved.packages k < length im.packages → package-places (place moved.packages k) ≡ k
    needed-place k e l = get_or_append_left (marked_places 0 moved.packages) (new ∷ []) 0 (place moved.packages k) (omega (arith, l, count-marked)) ∙ (marked-at 0 moved.packages k e ∙ none-plus k)

    record IsPackage (t : ℕ) : Type 0 where
      pub one : PackageParts
      pub from : ℕ
      pub marked : get_or moved.packages from false ≡ true
      pub stood : slice_get s.packages from ≡ Some one
      pub here : slice_get c.packages t ≡ Some one
      pub at : package-places t ≡ from
      pub back_is : place moved.packages from ≡ t

    package-at : (t : ℕ) → t < length im.packages → IsPackage t
    package-at t l =
        let p = one-there im.packages t l in
        let w = was-kept moved.packages s.packages t p.0 (ap (λ (ps : List PackageParts). slice_get ps t) (sym n.table.packages) ∙ p.1) in
        record {
          one = p.0;
          from = w.from;
          marked = w.marked;
          stood = w.stood;
          here = ap (λ (ps : List PackageParts). slice_get ps t) begins.packages_are ∙ front-get im.packages (own ∷ []) t p.0 p.1;
          at = ap package-places (sym w.is) ∙ needed-place w.from w.marked (omega (arith, w.is, l));
          back_is = w.is;
        }

    own-number : (t : ℕ) → t ≡ length im.packages → package-places t ≡ new
    own-number t e = ap package-places (e ∙ sym count-marked) ∙ get_or-append_seam (marked_places 0 moved.packages) new [] 0

    is-last : (t : ℕ) → length im.packages ≤ t → t < length c.packages → t ≡ length im.packages
    is-last t l k = omega (arith, l, k, count-packages)

    -- the package of an import
    import-package : (t : ℕ) (i : Interface) (x : IsImport t i) → (package-places i.«package».0 ≡ x.one.«package».0) × (i.«package».0 < length im.packages)
    import-package t i x =
        let number : place moved.packages x.one.«package».0 ≡ i.«package».0 = ap (λ (y : Interface). y.«package».0) x.put_is in
        let mark = part.interfaces_needed x.from x.one x.marked x.stood in
        let p = package-there s.packages x.one.«package».0 (interface-in s x.from x.one x.stood) in
        let within : place moved.packages x.one.«package».0 < length im.packages = omega (arith, ap length n.table.packages, slice_get_within (items_where_true moved.packages s.packages) (place moved.packages x.one.«package».0) p.0 (kept-at moved.packages s.packages x.one.«package».0 p.0 mark p.1)) in
        (ap package-places (sym number) ∙ needed-place x.one.«package».0 mark within, omega (arith, number, within))

    packages-images : AreImages needed package-places (length c.packages)
    packages-images = record {
      rising = rising-by package-places (place moved.packages) (length im.packages) new (length c.packages) (λ t l k. let x = package-at t l in (omega (arith, x.at, slice_get_within s.packages x.from x.one x.stood), ap (place moved.packages) x.at ∙ x.back_is)) (place-order moved.packages)
          (λ t l k. own-number t (is-last t l k) ∙ omega (arith, is-last t l k));
      marked = λ t l. elim (cut t (length im.packages)) [ inl k ↦ import-marked t k | inr k ↦ subst (λ (p : ℕ). get_or needed p false ≡ true) (sym (own-number t (is-last t k l))) own-marked ];
      only = λ k e. elim (b.only k e) [ inl e ↦ (length im.packages, omega (arith, count-packages), own-number (length im.packages) refl ∙ sym e) | inr x ↦ of-interface k x ];
    }
      where
        new-there : new < length r.packages
        new-there = omega (arith, ordering.length-packages s c j q own r put)

        own-marked : get_or needed new false ≡ true
        own-marked = b.own_one new-there

        each : has_each_package (own_package c.packages) 0 c.interfaces ≡ true
        each = (split (has_each_package (own_package c.packages) 0 c.interfaces) _ (split (are_of_a_set c.packages) _ (split (has_own (own_package c.packages) c.interfaces c.worlds) _ closed.closed).1).1).0

        of-import : (t k : ℕ) (i : Interface) → slice_get c.interfaces k ≡ Some i → i.«package».0 ≡ t → t < length im.packages → (k < import_count c) ⊎ (import_count c ≤ k) → get_or needed (package-places t) false ≡ true
        of-import t k i e f l (inr g) =
            let at : import_count c + (k - import_count c) ≡ k = omega (arith, g) in
            absurd (omega (arith, f, l, own-last (k - import_count c) i (ap (slice_get c.interfaces) at ∙ e)))
        of-import t k i e f l (inl g) =
            let x = import-at k i g e in
            let number : package-places t ≡ x.one.«package».0 = ap package-places (sym f) ∙ (import-package k i x).0 in
            let within = slice_get_within s.interfaces x.from x.one x.stood in
            let there-at : slice_get r.interfaces x.from ≡ Some x.one = ordering.front-interface s c j q own r put x.from within ∙ x.stood in
            let marked : get_or m.interfaces x.from true ≡ true = subst (λ (y : ℕ). get_or m.interfaces y true ≡ true) x.at (a.complete _ (interface-reached k (slice_get_within c.interfaces k i e))) in
            get_or_default needed (package-places t) false true (omega (arith, b.count, number, interface-in s x.from x.one x.stood, ordering.length-packages s c j q own r put))
            ∙ b.others (package-places t) (x.from, x.one, there-at, marked, sym number)

        import-marked : (t : ℕ) → t < length im.packages → get_or needed (package-places t) false ≡ true
        import-marked t l = let x = has-one (own_package c.packages) 0 c.interfaces each t (omega arith) (omega (arith, l, count-packages)) in of-import t x.0 x.1 x.2 x.3 l (cut x.0 (import_count c))

        of-interface : (k : ℕ) → IsReachedIn r m k → (t : ℕ) × (t < length c.packages) × (package-places t ≡ k)
        of-interface k (i, x, e, marked, f) =
            let o : Option Owner = Some (owner.Interface (record { 0 = i })) in
            let l = slice_get_within r.interfaces i x e in
            let t = covering.reached-here s c j q own r put tower.form closed there o (a.sound o marked) l in
            let y = one-there c.interfaces t.0 t.1 in
            by t.0 t.1 t.2 y.0 y.1 (cut t.0 (import_count c))
          where
            by : (t : ℕ) → t < length c.interfaces → to.interfaces t ≡ i → (y : Interface) → slice_get c.interfaces t ≡ Some y → (t < import_count c) ⊎ (import_count c ≤ t) → (u : ℕ) × (u < length c.packages) × (package-places u ≡ k)
            by t l is-there y at (inl g) =
                let z = import-at t y g at in
                let p = import-package t y z in
                let same-place : z.from ≡ i = sym z.at ∙ is-there in
                let within = slice_get_within s.interfaces z.from z.one z.stood in
                let one : Some z.one ≡ Some x = sym z.stood ∙ (sym (ordering.front-interface s c j q own r put z.from within) ∙ (ap (slice_get r.interfaces) same-place ∙ e)) in
                let same : z.one ≡ x = cc in
                (y.«package».0, omega (arith, p.1, count-packages), p.0 ∙ (ap (λ (v : Interface). v.«package».0) same ∙ f))
            by t l is-there y at (inr g) =
                let behind : length s.interfaces ≤ i = omega (arith, own-place t g l, is-there) in
                let number : package_of_owner r (Some (owner.Interface (record { 0 = i }))) ≡ x.«package».0 = ap (λ (v : Option Interface). number_or (option_map (λ u. u.«package».0) v)) e in
                let last = ordering.own-interface s c j q own r put i behind (omega (arith, slice_get_within r.interfaces i x e, count-interfaces)) in
                (length im.packages, omega (arith, count-packages), own-number (length im.packages) refl ∙ (sym last ∙ (number ∙ f)))

    packages-again : items_where_true needed r.packages ≡ c.packages
    packages-again = same-lists (items_where_true needed r.packages) c.packages (images-length needed package-places (length c.packages) packages-images r.packages b.count) each
      where
        is-kept : (t : ℕ) (p : PackageParts) → t < length c.packages → slice_get r.packages (package-places t) ≡ Some p → slice_get (items_where_true needed r.packages) t ≡ Some p
        is-kept t p l e = ap (slice_get (items_where_true needed r.packages)) (sym (image-place needed package-places (length c.packages) packages-images t l)) ∙ kept-at needed r.packages (package-places t) p (packages-images.marked t l) e

        each : (t : ℕ) (p : PackageParts) → slice_get c.packages t ≡ Some p → slice_get (items_where_true needed r.packages) t ≡ Some p
        each t p e = elim (cut t (length im.packages)) [
          | inl l ↦
              let x = package-at t l in
              let one : Some x.one ≡ Some p = sym x.here ∙ e in
              is-kept t p (slice_get_within c.packages t p e) (ap (slice_get r.packages) x.at ∙ (ap (λ (ps : List PackageParts). slice_get ps x.from) put.packages ∙ (front-get s.packages (own ∷ []) x.from x.one x.stood ∙ one)))
          | inr l ↦
              let last = is-last t l (slice_get_within c.packages t p e) in
              let here : Some own ≡ Some p = sym is ∙ (ap (slice_get c.packages) (omega (arith, last, count-packages)) ∙ e) in
              let plus : length s.packages ≡ length s.packages + 0 = omega arith in
              is-kept t p (slice_get_within c.packages t p e) (ap (slice_get r.packages) (own-number t last ∙ plus) ∙ (ap (λ (ps : List PackageParts). slice_get ps (length s.packages + 0)) put.packages ∙ (behind-get s.packages (own ∷ []) 0 ∙ here)))
        ]

    -- ---- there and back

    abbrev fro : Renaming
    fro = renaming back

    row-back-at : (t : ℕ) → t < length c.definitions → ComesBack to fro t
    row-back-at t l = (refl, rows-images.marked t l, image-place back.rows to.rows (length c.definitions) rows-images t l)

    own-package-back : place needed j.«package» ≡ length im.packages
    own-package-back =
        ap (place needed) (q.are_joined.package_is ∙ sym (own-number (length im.packages) refl)) ∙ image-place needed package-places (length c.packages) packages-images (length im.packages) (omega (arith, count-packages))

    row-again : (t : ℕ) (d : Definition) → slice_get c.definitions t ≡ Some d → put_row fro (put_row to d) ≡ d
    row-again t d e = row-back to fro (is_below t) (λ x l. (row-back-at x (omega (arith, ltb-true x t l, within))).2) d owned below
      where
        within : t < length c.definitions
        within = slice_get_within c.definitions t d e

        primitive : (v : ValType) → type_references v ≡ [] → is_below t v ≡ true
        primitive (val.Primitive p) z = refl
        primitive val.String z = refl
        primitive (val.Id x) z = absurd (cc)

        below : definition_all (is_below t) d ≡ true
        below = definition-all (is_below t) primitive d (λ x k. lt-ltb x.0 t (named-before c.definitions t d x c.earlier e k))

        owner-back : (o : Option Owner) → IsOwnedFrom 0 (0 + length c.interfaces) o ⊎ IsOfWorlds (0 + length c.worlds) o → IsBack to fro o
        owner-back None z = tt
        owner-back (Some (owner.Interface i)) (inl z) = image-place back.interfaces to.interfaces (length c.interfaces) interfaces-images i.0 (omega (arith, z.1))
        owner-back (Some (owner.Interface i)) (inr z) = absurd z
        owner-back (Some (owner.World w)) (inl z) = absurd z
        owner-back (Some (owner.World w)) (inr z) = image-place back.worlds to.worlds (length c.worlds) worlds-images w.0 (omega (arith, z))

        owned : IsBack to fro (owner_of d)
        owned = owner-back (owner_of d) (covering.closed-owner s c j q own r put tower.form closed there t d e)

    -- the ids of an interface
    id-back : (t : ℕ) (i : Interface) → slice_get c.interfaces t ≡ Some i → (x : ℕ) → Contains (ids_of i) x → ComesBack to fro x
    id-back t i e x d = let y = id-there c.definitions i (list-at (is_placed c.definitions) c.interfaces t i c.placed e) x d in row-back-at x (slice_get_within c.definitions x y.0 y.1)

    -- an interface that has its ids there
    interface-again : (t : ℕ) (i x : Interface) → slice_get c.interfaces t ≡ Some i → HasIds to i x → x.name ≡ i.name → place needed x.«package».0 ≡ i.«package».0 → put_interface fro x ≡ i
    interface-again t i x e ids name number = λ k. record { «package» = record { 0 = number k }; name = name k; uses = uses k; types = types k; functions = functions k }
      where
        uses : put_types fro x.uses ≡ i.uses
        uses = ap (put_types fro) ids.uses
            ∙ types-back to fro i.uses (λ y d. id-back t i e y.0 (Contains-append_left (map (λ z. z.0) i.uses) _ y.0 (contains-map (λ (z : TypeId). z.0) i.uses y d)))

        types : put_types fro x.types ≡ i.types
        types = ap (put_types fro) ids.types
            ∙ types-back to fro i.types (λ y d. id-back t i e y.0 (Contains-append_right (map (λ z. z.0) i.uses) _ y.0 (Contains-append_left (map (λ z. z.0) i.types) _ y.0 (contains-map (λ (z : TypeId). z.0) i.types y d))))

        functions : put_functions fro x.functions ≡ i.functions
        functions = ap (put_functions fro) ids.functions
            ∙ functions-back to fro i.functions (λ y d. id-back t i e y.0 (Contains-append_right (map (λ z. z.0) i.uses) _ y.0 (Contains-append_right (map (λ z. z.0) i.types) _ y.0 (contains-map (λ (z : FunctionId). z.0) i.functions y d))))

    interface-told : (t : ℕ) (i : Interface) → slice_get c.interfaces t ≡ Some i → (x : Interface) × (slice_get r.interfaces (to.interfaces t) ≡ Some x) × (put_interface fro x ≡ i)
    interface-told t i e = elim (cut t (import_count c)) [
      | inl l ↦
          let x = import-at t i l e in
          let p = import-package t i x in
          let within = slice_get_within s.interfaces x.from x.one x.stood in
          let ids = q.ids t i (slice_get-take (import_count c) c.interfaces t l ∙ e) in
          let same : Some ids.0 ≡ Some x.one = sym ids.1 ∙ (ap (slice_get s.interfaces) x.at ∙ x.stood) in
          let has : HasIds to i x.one = import-ids ids.0 x.one same i ids.2 in
          let number : place needed x.one.«package».0 ≡ i.«package».0 = ap (place needed) (sym p.0) ∙ image-place needed package-places (length c.packages) packages-images i.«package».0 (omega (arith, p.1, count-packages)) in (
            x.one,
            ap (slice_get r.interfaces) x.at ∙ (ordering.front-interface s c j q own r put x.from within ∙ x.stood),
            interface-again t i x.one e has (ap (λ (y : Interface). y.name) x.put_is) number,
          )
      | inr l ↦
          let k = t - import_count c in
          let at : import_count c + k ≡ t = omega (arith, l) in
          let own-at : slice_get (own_interfaces c) k ≡ Some i = slice_get-drop (import_count c) c.interfaces k ∙ (ap (slice_get c.interfaces) at ∙ e) in
          let number : place needed j.«package» ≡ i.«package».0 = own-package-back ∙ sym (own-last k i (ap (slice_get c.interfaces) at ∙ e)) in (
            put_interface to i,
            ap (λ (xs : List Interface). slice_get xs (to.interfaces t)) put.interfaces
                ∙ (ap (slice_get (s.interfaces ++ own-put)) (own-place t l (slice_get_within c.interfaces t i e)) ∙ (behind-get s.interfaces own-put k ∙ map-get (put_interface to) (own_interfaces c) k i own-at)),
            interface-again t i (put_interface to i) e (record { uses = refl; types = refl; functions = refl }) refl number,
          )
    ]
      where
        import-ids : (x y : Interface) → Some x ≡ Some y → (i : Interface) → HasIds to i x → HasIds to i y
        import-ids x y same i ids = let one : x ≡ y = cc in subst (λ (z : Interface). HasIds to i z) one ids

    -- ---- worlds

    item-again : (w : ℕ) (i : WorldItem) → is_placed_item c.definitions (length c.interfaces) w i.kind ≡ true → put_item fro (put_item to i) ≡ i
    item-again w i z = ap (λ (k : WorldItemKind). record { direction = i.direction; kind = k }) (kind i.kind z)
      where
        function-there : (f : FunctionId) (o : Option Definition) → slice_get c.definitions f.0 ≡ o → is_function_of w (function_of o) ≡ true → f.0 < length c.definitions
        function-there f None g u = absurd (true≢false (sym u))
        function-there f (Some d) g u = slice_get_within c.definitions f.0 d g

        kind : (k : WorldItemKind) → is_placed_item c.definitions (length c.interfaces) w k ≡ true → put_item_kind fro (put_item_kind to k) ≡ k
        kind (item.Interface x) u = ap (λ (y : ℕ). item.Interface (record { 0 = y })) (image-place back.interfaces to.interfaces (length c.interfaces) interfaces-images x.0 (ltb-true x.0 (length c.interfaces) u))
        kind (item.Function f) u = ap (λ (y : ℕ). item.Function (record { 0 = y })) (row-back-at f.0 (function-there f (slice_get c.definitions f.0) refl u)).2

    items-again : (w : ℕ) (xs : List WorldItem) → list_all (λ y. is_placed_item c.definitions (length c.interfaces) w y.kind) xs ≡ true → map (put_item fro) (map (put_item to) xs) ≡ xs
    items-again w [] z = refl
    items-again w (x ∷ xs) z =
        let p = split (is_placed_item c.definitions (length c.interfaces) w x.kind) (list_all (λ y. is_placed_item c.definitions (length c.interfaces) w y.kind) xs) z in
        let one = item-again w x p.0 in
        let rest = items-again w xs p.1 in
        cc

    world-again : (t : ℕ) (w : World) → slice_get c.worlds t ≡ Some w → put_world fro (put_world to w) ≡ w
    world-again t w e = λ k. record { «package» = record { 0 = number k }; name = w.name; items = items k }
      where
        number : place needed j.«package» ≡ w.«package».0
        number =
            own-package-back
            ∙ omega (arith, count-packages, eqb-true w.«package».0 (own_package c.packages) (list-at (is_world_of (own_package c.packages)) c.worlds t w (all-worlds c form closed.closed) e))

        items : map (put_item fro) (map (put_item to) w.items) ≡ w.items
        items = items-again (0 + t) w.items (placed-at c.definitions (length c.interfaces) 0 c.worlds t w c.worlds_placed e)

    -- ---- all of it

    pub is-again : IsSamePackage R c
    is-again = record {
      packages = table.packages ∙ packages-again;
      interfaces = table.interfaces ∙ kept-is back.interfaces r.interfaces to.interfaces c.interfaces interfaces-images counted (put_interface fro) interface-told;
      worlds = table.worlds ∙ kept-is back.worlds r.worlds to.worlds c.worlds worlds-images worlds-counted (put_world fro) (λ t w e. (put_world to w, world-at t w e, world-again t w e));
      definitions = table.definitions ∙ kept-is back.rows r.definitions to.rows c.definitions rows-images rows-counted (put_row fro) (λ t d e. (put_row to d, row-at t d e, row-again t d e));
    }
