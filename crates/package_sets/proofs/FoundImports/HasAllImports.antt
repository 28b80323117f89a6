-- A closed table that begins with what interfaces of a set reach has its imports in the set.
use Rattle.std.proofs.Common.{◌≡◌, ◌<◌, inl, inr, ℕ, zero, suc, ◌+◌, Bool, true, false, ◌||◌, List, [], ◌∷◌, ◌++◌, length, map, take, get_or, slice_get, Option, None, Some, refl, ap, sym, subst, ◌∙◌, arith, eqb-true, nat_lt}
use Rattle.std.specs.Prelude.{Contains}
use Rattle.std.specs.List.{list_any, items_where_true}
use Rattle.std.specs.Str.{bytes_eq}
use Rattle.std.proofs.lemmas.Bool.{ltb-true}
use Rattle.std.proofs.lemmas.List.{length-map}
use Rattle.std.proofs.lemmas.List.Elements.{Contains-append_left, Contains-append_right}
use Rattle.std.proofs.lemmas.Option.{slice_get_within}
use Rattle.std.proofs.lemmas.Slice.Eq.{bytes_eq-Decides}
use Rattle.package_form.specs.Closed.{is_same_package}
use Rattle.package_form.specs.Ends.{end_of, interfaces_end, are_worlds_parted}
use Rattle.package_form.specs.Form.{ids_of}
use Rattle.package_form.proofs.AllAndContains.{contains-map, get-front}
use Rattle.package_form.proofs.FullNamesStandForInterfaces.{package-there, same-itself}
use Rattle.tables.specs.PackageNames.{PackageParts}
use Rattle.tables.proofs.ClosedTypesRowByRow.{split, both}
use Rattle.tables.specs.declared.tables.TypeId.{TypeId}
use Rattle.tables.specs.declared.tables.FunctionId.{FunctionId}
use Rattle.tables.specs.declared.tables.InterfaceId.{InterfaceId}
use Rattle.tables.specs.declared.tables.Owner.{Owner}
use Rattle.tables.specs.declared.tables.Owner.TheVariants as owner
use Rattle.tables.specs.declared.tables.Definition.{Definition}
use Rattle.tables.specs.declared.tables.Interface.{Interface}
use Rattle.tables.specs.declared.tables.World.{World}
use Rattle.tables.specs.declared.tables.Resolve.{Resolve}
use Rattle.set_rows.specs.Owners.{owners}
use Rattle.tables.specs.Names.{owner_of}
use Rattle.set_rows.specs.Places.{place}
use Rattle.set_rows.specs.Reaches.{is_marked}
use Rattle.set_rows.specs.Renamed.{renaming}
use Rattle.set_rows.specs.Moved.{Renaming, put_row, put_interface}
use Rattle.package_sets.specs.Part.{IsPart, IsTableOf}
use Rattle.package_sets.specs.Follows.{BeginsWith}
use Rattle.package_sets.specs.Joining.{imports, IsFirst, are_same_packages, has_name_of, AreFound, import_rows, row_places, joined, AreRowsThere, HasIds, AreIdsThere, HasImports}
use Rattle.package_sets.specs.Attached.{others, HasAll, Fits}
use Rattle.package_sets.specs.Set.{AreRowsOf, ArePackageByPackage, behind_all, an_interface, a_world, IsSet, HasRowsInForm}
use Rattle.package_sets.specs.SetForm.{HasNamesApart}
use Rattle.set_rows.specs.declared.moved.Moved.{Moved}
use Rattle.package_sets.proofs.KeptParts.PropertiesOfKept.{interface-in}
use Rattle.package_sets.proofs.GrowingLists.{map-unget, front-place, one-there, behind-get}
use Rattle.package_sets.proofs.FoundImports.BeginsWithImports.{own-is, begins-packages, begins-imports, begins-rows}
use Rattle.set_rows.proofs.KeptElementsAndPlaces.{kept-at}
use Rattle.package_sets.proofs.OwnedRows.RowsAreOwned.{length-rows, parted-worlds}
use Rattle.package_sets.proofs.AttachedSets.NamesTellTheSet.{same-packages}
use Rattle.package_sets.proofs.OwnedRows.EachRowHasAnOwner.{owner-some, belongs, Belongs, one-later, plus-none}
use Rattle.package_sets.proofs.KeptParts.KeptRowsKeepMeaning.{is_kept}
use Rattle.package_sets.proofs.KeptParts.KeptIsATable as table
use Rattle.package_sets.proofs.KeptParts.KeptIsPackageByPackage.{interface-marks, interface-mark, id-kept}
use Rattle.package_sets.proofs.MovedRows.MovedBackIsSame.{IsBack, ComesBack, row-back, types-back, functions-back}
use Rattle.package_sets.proofs.KeptParts.PlacesOfKept.{marked_places, marked-at, length-marked, was-kept, kept-package, rows-found}

-- ---- lists

any-here : {A : Type 0} (f : A → Bool) (xs : List A) (k : ℕ) (x : A) → slice_get xs k ≡ Some x → f x ≡ true → list_any f xs ≡ true
any-here f [] k x e h = absurd (cc)
any-here f (y ∷ xs) zero x e h = let same : y ≡ x = cc in ap (λ (b : Bool). b || list_any f xs) (ap f same ∙ h)
any-here f (y ∷ xs) (suc k) x e h = by (f y) refl (any-here f xs k x e h)
  where
    by : (b : Bool) → f y ≡ b → list_any f xs ≡ true → list_any f (y ∷ xs) ≡ true
    by true q r = ap (λ (b : Bool). b || list_any f xs) q
    by false q r = ap (λ (b : Bool). b || list_any f xs) q ∙ r

-- where an interface's rows are
record HasRowsAt (rows : List Definition) (k : ℕ) (i : Interface) : Type 0 where
  pub start : ℕ
  pub are : AreRowsOf rows start k i

rows-at : (rows : List Definition) (start k : ℕ) (is : List Interface) (j : ℕ) (ws : List World) → ArePackageByPackage rows start k is j ws → (m : ℕ) (x : Interface) → slice_get is m ≡ Some x → HasRowsAt rows (k + m) x
rows-at rows _ _ _ _ _ (behind_all start k j e) m x at = absurd (cc)
rows-at rows _ _ _ _ _ (an_interface start k i is j ws a before rest) zero x at =
    let same : i ≡ x = cc in
    subst (λ n. HasRowsAt rows n x) (sym (plus-none k)) (subst (λ (y : Interface). HasRowsAt rows k y) same (record { start = start; are = a }))
rows-at rows _ _ _ _ _ (an_interface start k i is j ws a before rest) (suc m) x at = subst (λ n. HasRowsAt rows n x) (one-later k m) (rows-at rows (end_of start i) (k + 1) is j ws rest m x at)
rows-at rows _ _ _ _ _ (a_world start k is j w ws a later rest) m x at = rows-at rows _ k is (j + 1) ws rest m x at

-- each id of an interface that is kept is kept
pub ids-within : (s : Resolve) (to : Moved) (n : IsPart s to) → IsSet s → (k : ℕ) (i : Interface) → slice_get s.interfaces k ≡ Some i → get_or to.interfaces k false ≡ true → (x : ℕ) → Contains (ids_of i) x
    → (get_or to.rows x false ≡ true) × (x < length s.definitions)
ids-within s to n set k i e h x d =
    let within = slice_get_within s.interfaces k i e in
    let rows : HasRowsAt s.definitions k i = subst (λ m. HasRowsAt s.definitions m i) (none-more k) (rows-at s.definitions 0 0 s.interfaces 0 s.worlds set.stands k i e) in
    id-kept s to n rows.start k i rows.are (interface-marks s to n rows.start k i true rows.are (interface-mark s to n k within ∙ h)) x d
  where
    none-more : (m : ℕ) → 0 + m ≡ m
    none-more m = omega arith

pub ids-kept : (s : Resolve) (to : Moved) (n : IsPart s to) → IsSet s → (k : ℕ) (i : Interface) → slice_get s.interfaces k ≡ Some i → get_or to.interfaces k false ≡ true → (x : ℕ) → Contains (ids_of i) x → get_or to.rows x false ≡ true
ids-kept s to n set k i e h x d = (ids-within s to n set k i e h x d).0

module _ (s : Resolve) (to : Moved) (n : IsPart s to) (set : IsSet s) (apart : HasNamesApart s) (none : (k : ℕ) → get_or to.worlds k false ≡ true → ⊥) (r : Resolve) (t : IsTableOf s to r) (no-worlds : r.worlds ≡ []) (form : HasRowsInForm r) (c : Resolve) (b : BeginsWith r c) where
  -- ---- the imports

  abbrev pub places : List ℕ
  places = marked_places 0 to.interfaces

  none-plus : (k : ℕ) → 0 + k ≡ k
  none-plus k = omega arith

  -- an import, as the set has it
  pub record IsOne (a : ℕ) (i : Interface) : Type 0 where
    pub one : Interface
    pub from : ℕ
    pub marked : get_or to.interfaces from false ≡ true
    pub stood : slice_get s.interfaces from ≡ Some one
    pub is : place to.interfaces from ≡ a
    pub put : put_interface (renaming to) one ≡ i
    pub at : get_or places a 0 ≡ from

  pub one-of : (a : ℕ) (i : Interface) → slice_get r.interfaces a ≡ Some i → IsOne a i
  one-of a i e =
      let u = map-unget (put_interface (renaming to)) (items_where_true to.interfaces s.interfaces) a i (ap (λ (is : List Interface). slice_get is a) (sym t.interfaces) ∙ e) in
      let w = was-kept to.interfaces s.interfaces a u.0 u.1 in
      record {
        one = u.0;
        from = w.from;
        marked = w.marked;
        stood = w.stood;
        is = w.is;
        put = u.2;
        at = ap (λ k. get_or places k 0) (sym w.is) ∙ (marked-at 0 to.interfaces w.from w.marked ∙ none-plus w.from);
      }

  -- its package is the set's
  pub package-same : (a : ℕ) (i : Interface) (e : slice_get r.interfaces a ≡ Some i) (o : IsOne a i) → slice_get c.packages i.«package».0 ≡ slice_get s.packages o.one.«package».0
  package-same a i e o =
      let number : place to.packages o.one.«package».0 ≡ i.«package».0 = ap (λ (x : Interface). x.«package».0) o.put in
      ap (λ (ps : List PackageParts). slice_get ps i.«package».0) b.packages_are
      ∙ (get-front r.packages (b.own ∷ []) i.«package».0 (interface-in r a i e)
      ∙ (ap (λ (ps : List PackageParts). slice_get ps i.«package».0) t.packages
      ∙ (ap (slice_get (items_where_true to.packages s.packages)) (sym number) ∙ kept-package s to n o.from o.one o.marked o.stood)))

  first-is : (a : ℕ) (i : Interface) → slice_get r.interfaces a ≡ Some i → IsFirst (has_name_of s c i) s.interfaces (get_or places a 0)
  first-is a i e = record {
    one = o.one;
    stands = ap (slice_get s.interfaces) o.at ∙ o.stood;
    holds = both (are_same_packages (slice_get c.packages i.«package».0) (slice_get s.packages o.one.«package».0)) (bytes_eq i.name o.one.name) same-package ((bytes_eq-Decides i.name o.one.name).1 (sym name));
    before = λ j x l g. no-name (has_name_of s c i x) j x refl (omega (arith, l, o.at)) g;
  }
    where
      o : IsOne a i
      o = one-of a i e

      name : o.one.name ≡ i.name
      name = ap (λ (x : Interface). x.name) o.put

      same-package : are_same_packages (slice_get c.packages i.«package».0) (slice_get s.packages o.one.«package».0) ≡ true
      same-package =
          let p = package-there s.packages o.one.«package».0 (interface-in s o.from o.one o.stood) in
          ap (λ (x : Option PackageParts). are_same_packages x (slice_get s.packages o.one.«package».0)) (package-same a i e o)
          ∙ (ap (λ (x : Option PackageParts). are_same_packages x x) p.1 ∙ same-itself p.0)

      no-name : (x : Bool) (j : ℕ) (y : Interface) → has_name_of s c i y ≡ x → j < o.from → slice_get s.interfaces j ≡ Some y → has_name_of s c i y ≡ false
      no-name false j y q l g = q
      no-name true j y q l g =
          let p = split (are_same_packages (slice_get c.packages i.«package».0) (slice_get s.packages y.«package».0)) (bytes_eq i.name y.name) q in
          let packages = sym (same-packages _ _ p.0) ∙ package-same a i e o in
          let names = sym ((bytes_eq-Decides i.name y.name).0 p.1) ∙ sym name in
          absurd (omega (arith, l, apart.each j o.from y o.one g o.stood packages names))

  found-are : AreFound s c r.interfaces places
  found-are = record {
    count = length-marked 0 to.interfaces s.interfaces (ap length n.interfaces_are ∙ n.count) ∙ (sym (length-map (items_where_true to.interfaces s.interfaces) (put_interface (renaming to))) ∙ sym (ap length t.interfaces));
    each = first-is;
  }

  -- ---- rows

  abbrev pub J : Renaming
  J = joined s c places

  rows-are : import_rows s c places ≡ row_places s 0 r.interfaces places
  rows-are = ap (λ (is : List Interface). row_places s 0 is places) (begins-imports r c b)

  take-all : {A : Type 0} (xs : List A) → take (length xs) xs ≡ xs
  take-all [] = refl
  take-all (x ∷ xs) = ap (λ ys. x ∷ ys) (take-all xs)

  pub length-is : length (import_rows s c places) ≡ length r.definitions
  length-is =
      let whole = take-all r.interfaces in
      let count : length places ≡ length (take (length r.interfaces) r.interfaces) = found-are.count ∙ sym (ap length whole) in
      let long = length-rows s (length r.definitions) 0 (length r.interfaces) r.interfaces r.worlds places form.parted count in
      ap length rows-are
      ∙ (ap (λ (is : List Interface). length (row_places s 0 is places)) (sym whole)
      ∙ (sym (none-plus (length (row_places s 0 (take (length r.interfaces) r.interfaces) places))) ∙ (long ∙ (ap (interfaces_end 0) whole ∙ end))))
    where
      end : interfaces_end 0 r.interfaces ≡ length r.definitions
      end = eqb-true (interfaces_end 0 r.interfaces) (length r.definitions)
          (subst (λ (ws : List World). are_worlds_parted (length r.definitions) (interfaces_end 0 r.interfaces) ws ≡ true) no-worlds (parted-worlds (length r.definitions) 0 r.interfaces r.worlds form.parted))

  imported-are : take (length (import_rows s c places)) c.definitions ≡ r.definitions
  imported-are = ap (λ k. take k c.definitions) length-is ∙ begins-rows r c b

  place-within : (u : ℕ) (d : Definition) → slice_get s.definitions u ≡ Some d → get_or to.rows u false ≡ true → place to.rows u < length r.definitions
  place-within u d e h =
      omega (arith, ap length t.definitions, length-map (items_where_true to.rows s.definitions) (put_row (renaming to)), slice_get_within (items_where_true to.rows s.definitions) (place to.rows u) d (kept-at to.rows s.definitions u d h e))

  -- a row that is kept comes back to its place
  pub row-found : (u : ℕ) (d : Definition) → slice_get s.definitions u ≡ Some d → get_or to.rows u false ≡ true → J.rows (place to.rows u) ≡ u
  row-found u d e h =
      front-place (import_rows s c places) (length s.definitions) (length c.definitions) (place to.rows u) (omega (arith, length-is, place-within u d e h))
      ∙ (ap (λ (xs : List ℕ). get_or xs (place to.rows u) 0) rows-are
      ∙ (ap (λ (is : List Interface). get_or (row_places s 0 is places) (place to.rows u) 0) t.interfaces
      ∙ rows-found s to n set.apart none set.stands u (slice_get_within s.definitions u d e) h))

  id-found : (u : ℕ) → u < length s.definitions → get_or to.rows u false ≡ true → J.rows (place to.rows u) ≡ u
  id-found u l h = let d = one-there s.definitions u l in row-found u d.0 d.1 h

  pub interface-found : (k : ℕ) (i : Interface) → slice_get s.interfaces k ≡ Some i → get_or to.interfaces k false ≡ true → J.interfaces (place to.interfaces k) ≡ k
  interface-found k i e h =
      front-place places (length s.interfaces) (length c.interfaces) (place to.interfaces k) within ∙ (marked-at 0 to.interfaces k h ∙ none-plus k)
    where
      within : place to.interfaces k < length places
      within = omega (
        arith,
        found-are.count,
        ap length t.interfaces,
        length-map (items_where_true to.interfaces s.interfaces) (put_interface (renaming to)),
        slice_get_within (items_where_true to.interfaces s.interfaces) (place to.interfaces k) i (kept-at to.interfaces s.interfaces k i h e),
      )

  -- whose it is comes back too
  owner-found : (u : ℕ) (d : Definition) → slice_get s.definitions u ≡ Some d → get_or to.rows u false ≡ true → IsBack (renaming to) J (owner_of d)
  owner-found u d e h = by (owner_of d) refl
    where
      within : u < length s.definitions
      within = slice_get_within s.definitions u d e

      marked : is_marked n.marks (get_or (owners s.definitions) u None) ≡ true
      marked = sym (table.mark-at s to n u within) ∙ h

      -- a row that is kept is of an interface of the set
      inside : (x : Owner) → owner_of d ≡ Some x → Belongs s.definitions 0 (0 + length s.interfaces) 0 (0 + length s.worlds) u d → IsBack (renaming to) J (Some x)
      inside x q (inl a) = by-owner x (sym (owner-some s.definitions u d x e q) ∙ a.owned)
        where
          by-owner : (x : Owner) → Some x ≡ Some (owner.Interface (record { 0 = a.interface })) → IsBack (renaming to) J (Some x)
          by-owner (owner.World w) z = absurd (cc)
          by-owner (owner.Interface i) z =
              let same : owner.Interface i ≡ owner.Interface (record { 0 = a.interface }) = cc in
              back i.0 (number-of i a.interface same)
            where
              number-of : (i : InterfaceId) (k : ℕ) → owner.Interface i ≡ owner.Interface (record { 0 = k }) → i.0 ≡ k
              number-of i k z = let y : i ≡ record { 0 = k } = cc in ap (λ (v : InterfaceId). v.0) y

              back : (k : ℕ) → k ≡ a.interface → J.interfaces (place to.interfaces k) ≡ k
              back k z =
                  let one = one-there s.interfaces k (omega (arith, z, a.ends)) in
                  let mark : is_marked n.marks (Some (owner.Interface (record { 0 = k }))) ≡ true =
                  ap (λ (m : ℕ). is_marked n.marks (Some (owner.Interface (record { 0 = m })))) z ∙ (sym (ap (is_marked n.marks) a.owned) ∙ marked) in
                  interface-found k one.0 one.1 (table.interface-there s to n k (omega (arith, z, a.ends)) mark)
      inside x q (inr a) = absurd (none a.world (n.worlds_kept set.apart a.world (omega (arith, a.ends)) (sym (ap (is_marked n.marks) a.owned) ∙ marked)))

      by : (o : Option Owner) → owner_of d ≡ o → IsBack (renaming to) J (owner_of d)
      by None q = subst (λ (o : Option Owner). IsBack (renaming to) J o) (sym q) tt
      by (Some x) q = subst (λ (o : Option Owner). IsBack (renaming to) J o) (sym q) (inside x q (belongs s.definitions 0 0 s.interfaces 0 s.worlds set.stands u d (omega arith) e))

  row-comes-back : (u : ℕ) (d : Definition) → slice_get s.definitions u ≡ Some d → get_or to.rows u false ≡ true → put_row J (put_row (renaming to) d) ≡ d
  row-comes-back u d e h =
      row-back (renaming to) J (is_kept to.rows u) (λ v k. id-kept-found v (split (nat_lt v u) (get_or to.rows v false) k)) d (owner-found u d e h) (table.kept-all s to n u u d (omega arith) e h)
    where
      id-kept-found : (v : ℕ) → (nat_lt v u ≡ true) × (get_or to.rows v false ≡ true) → J.rows (place to.rows v) ≡ v
      id-kept-found v p = id-found v (omega (arith, ltb-true v u p.0, slice_get_within s.definitions u d e)) p.1

  rows-there : AreRowsThere s J r.definitions
  rows-there a d e =
      let u = map-unget (put_row (renaming to)) (items_where_true to.rows s.definitions) a d (ap (λ (ds : List Definition). slice_get ds a) (sym t.definitions) ∙ e) in
      let w = was-kept to.rows s.definitions a u.0 u.1 in
      ap (λ k. slice_get s.definitions (J.rows k)) (sym w.is)
      ∙ (ap (slice_get s.definitions) (row-found w.from u.0 w.stood w.marked)
      ∙ (w.stood ∙ ap Some (sym (row-comes-back w.from u.0 w.stood w.marked) ∙ ap (put_row J) u.2)))

  -- ---- ids

  id-back : (k : ℕ) (i : Interface) → slice_get s.interfaces k ≡ Some i → get_or to.interfaces k false ≡ true → (x : ℕ) → Contains (ids_of i) x → ComesBack (renaming to) J x
  id-back k i e h x d = let p = ids-within s to n set k i e h x d in (p.0, refl, id-found x p.1 p.0)

  ids-are : (k : ℕ) (i : Interface) → slice_get s.interfaces k ≡ Some i → get_or to.interfaces k false ≡ true → HasIds J (put_interface (renaming to) i) i
  ids-are k i e h = record {
    uses = sym (types-back (renaming to) J i.uses (λ x d. id-back k i e h x.0 (Contains-append_left (map (λ y. y.0) i.uses) _ x.0 (contains-map (λ (y : TypeId). y.0) i.uses x d))));
    types = sym (types-back (renaming to) J i.types
        (λ x d. id-back k i e h x.0 (Contains-append_right (map (λ y. y.0) i.uses) _ x.0 (Contains-append_left (map (λ y. y.0) i.types) _ x.0 (contains-map (λ (y : TypeId). y.0) i.types x d)))));
    functions = sym (functions-back (renaming to) J i.functions
        (λ x d. id-back k i e h x.0 (Contains-append_right (map (λ y. y.0) i.uses) _ x.0 (Contains-append_right (map (λ y. y.0) i.types) _ x.0 (contains-map (λ (y : FunctionId). y.0) i.functions x d)))));
  }

  ids-there : AreIdsThere s J r.interfaces
  ids-there a i e =
      let o = one-of a i e in
      (o.one, ap (λ k. slice_get s.interfaces (J.interfaces k)) (sym o.is) ∙ (ap (slice_get s.interfaces) (interface-found o.from o.one o.stood o.marked) ∙ o.stood), subst (λ (x : Interface). HasIds J x o.one) o.put (ids-are o.from o.one o.stood o.marked))

  -- ---- all of it

  pub imports-found : AreFound s c (imports c) places
  imports-found = subst (λ (is : List Interface). AreFound s c is places) (sym (begins-imports r c b)) found-are

  has-imports : HasImports s c
  has-imports = record {
    places = places;
    found = imports-found;
    rows = subst (λ (ds : List Definition). AreRowsThere s J ds) (sym imported-are) rows-there;
    ids = subst (λ (is : List Interface). AreIdsThere s J is) (sym (begins-imports r c b)) ids-there;
  }

  pub has-all : HasAll s (others c)
  has-all k p e =
      let w = was-kept to.packages s.packages k p (ap (λ (ps : List PackageParts). slice_get ps k) (sym t.packages) ∙ (ap (λ (ps : List PackageParts). slice_get ps k) (sym (begins-packages r c b)) ∙ e)) in
      any-here (is_same_package p) s.packages w.from p w.stood (same-itself p)

  pub fits-there : Fits s c
  fits-there = record {
    own = b.own;
    own_is = ap (slice_get c.packages) (own-is r c b)
        ∙ (ap (λ (ps : List PackageParts). slice_get ps (length r.packages)) b.packages_are ∙ (ap (slice_get (r.packages ++ b.own ∷ [])) (sym (plus-none (length r.packages))) ∙ behind-get r.packages (b.own ∷ []) 0));
    imports = has-imports;
  }
