-- The table of one package of a set is in the form of packages.
use Rattle.std.proofs.Common.{◌≡◌, ◌≤◌, ◌<◌, ◌⊎◌, inl, inr, ℕ, zero, suc, ◌+◌, Bool, true, false, not, ◌||◌, ◌==◌, List, [], ◌∷◌, length, map, get_or, slice_get, Some, All, refl, ap, sym, subst, ◌∙◌, arith, eqb-true, eq-eqb}
use Rattle.std.specs.Prelude.{Contains, flat_map}
use Rattle.std.specs.List.{list_any, list_all, items_where_true}
use Rattle.std.proofs.lemmas.Bool.Decides.{nat_tests}
use Rattle.std.proofs.lemmas.List.{get_or-map}
use Rattle.std.proofs.lemmas.List.Folds.{Any-from_list_any, list_any-from_Any}
use Rattle.std.proofs.lemmas.Option.{slice_get_within, slice_get-get_or, get_or_from_slice_get}
use Rattle.package_form.specs.Closed.{own_package, is_world_of, has_own, are_of_a_set, has_each_package, is_closed}
use Rattle.package_form.specs.Entries.{type_entries, table_of}
use Rattle.package_form.specs.Form.{is_package_name, IsInPackageForm}
use Rattle.package_form.specs.Naming.{package_scopes}
use Rattle.package_form.specs.Postfix.{IsPostfix}
use Rattle.package_form.specs.Reached.{reached_by_row, reached_by_kind, reached_by_item, reached_by_world, reached, is_among, is_interface_of, are_reached}
use Rattle.package_form.specs.Scope.{AreDistinct}
use Rattle.package_form.proofs.AllAndContains.{contains-right, contains-flat, contains-map}
use Rattle.tables.proofs.ClosedTypesRowByRow.{both}
use Rattle.tables.specs.PackageNames.{PackageParts}
use Rattle.tables.specs.declared.tables.Interface.{Interface}
use Rattle.tables.specs.declared.tables.Owner.TheVariants as owner
use Rattle.tables.specs.declared.tables.Resolve.{Resolve}
use Rattle.tables.specs.declared.tables.World.{World}
use Rattle.tables.specs.declared.tables.WorldItem.{WorldItem}
use Rattle.tables.specs.declared.tables.WorldItemKind.{WorldItemKind}
use Rattle.tables.specs.declared.tables.WorldItemKind.TheVariants as item
use Rattle.set_rows.specs.Moved.{put_interface, put_item, put_world}
use Rattle.set_rows.specs.Owners.{owners}
use Rattle.package_sets.specs.Part.{IsTableOf}
use Rattle.set_rows.specs.Places.{place}
use Rattle.set_rows.specs.Reaches.{is_marked, own_marks, item_owners, owners_in, OfPackage, IsStart, of_start}
use Rattle.set_rows.specs.Renamed.{renaming}
use Rattle.package_sets.specs.Restricted.{IsNeeded}
use Rattle.package_sets.specs.Set.{HasRowsInForm}
use Rattle.package_sets.specs.Tower.{kept_entries, IsInTower}
use Rattle.set_rows.specs.declared.moved.Moved.{Moved}
use Rattle.package_sets.proofs.ReachedParts.ReachedByUsedNames.{kept-cited}
use Rattle.package_sets.proofs.PackageTables.RowsAreInForm.{rows-in-form}
use Rattle.package_sets.proofs.KeptParts.PackagesOfKept.{kept-set, kept-names, has-each}
use Rattle.package_sets.proofs.DistinctNames.ScopesOfKept.{table-scopes}
use Rattle.set_rows.proofs.KeptElementsAndPlaces.{kept-at, length-kept}
use Rattle.package_sets.proofs.ReachedParts.ReachesEarlierPackages.{item-of, last-own}
use Rattle.package_sets.proofs.GrowingLists.{map-get, map-unget, get-contains, contains-get, contains-unflat}
use Rattle.package_sets.proofs.KeptParts.PlacesOfKept.{was-kept}
use Rattle.package_sets.proofs.PackageTables.OfRestricted.{before-there}
use Rattle.package_sets.proofs.ReachedParts.ReachedIsPart.{package-part, world-own}
use Rattle.set_rows.proofs.PlacesOfMarked.{place-yes, place-no}
use Rattle.package_sets.proofs.KeptParts.KeptRowsArePostfix.{postfix-kept, blocks}
use Rattle.package_sets.proofs.KeptParts.KeptIsATable.{interface-there}
use Rattle.package_sets.proofs.KeptParts.KeptIsPackageByPackage.{all-from}
use Rattle.package_sets.proofs.KeptParts.KeptTellsTheSame.{worlds-same}
use Rattle.package_sets.proofs.KeptParts.TypeEntriesOfKept.{entries-kept}

-- ---- the place of the last mark

place-after : (bs : List Bool) (k n : ℕ) → ((j : ℕ) → k ≤ j → get_or bs j false ≡ true → ⊥) → k ≤ n → place bs n ≡ place bs k
place-after bs k zero h l = ap (place bs) (omega arith)
place-after bs k (suc m) h l = by (place-after bs k m h) (cut k m)
  where
    cut : (a b : ℕ) → (a ≤ b) ⊎ (b < a)
    cut a b = grind arith

    none : k ≤ m → (b : Bool) → get_or bs m false ≡ b → get_or bs m false ≡ false
    none a true e = absurd (h m a e)
    none a false e = e

    by : (k ≤ m → place bs m ≡ place bs k) → (k ≤ m) ⊎ (m < k) → place bs (suc m) ≡ place bs k
    by rest (inr a) = ap (place bs) (omega arith)
    by rest (inl a) = place-no bs m (none a (get_or bs m false) refl) ∙ rest a

last-place : (bs : List Bool) (own : ℕ) → get_or bs own false ≡ true → ((j : ℕ) → get_or bs j false ≡ true → j ≤ own) → own < length bs → place bs own + 1 ≡ place bs (length bs)
last-place bs own e h l =
    sym (place-yes bs own e) ∙ sym (place-after bs (suc own) (length bs) (λ j a m. let q = h j m in omega (arith, a, q)) (omega (arith, l)))

-- ---- tests of lists

pub any-at : {A : Type 0} (f : A → Bool) (xs : List A) → list_any f xs ≡ true → (k : ℕ) × (x : A) × (slice_get xs k ≡ Some x) × (f x ≡ true)
any-at f xs h =
    let a = Any-from_list_any f xs h in
    (a.0, a.1, slice_get-get_or xs a.0 a.1 a.2 ∙ ap Some a.3, a.4)

pub at-any : {A : Type 0} (f : A → Bool) (xs : List A) (k : ℕ) (x : A) → slice_get xs k ≡ Some x → f x ≡ true → list_any f xs ≡ true
at-any f xs k x e h = list_any-from_Any f xs (k, x, slice_get_within xs k x e, get_or_from_slice_get xs k x x e, h)

pub or-either : (a b : Bool) → (a || b) ≡ true → (a ≡ true) ⊎ (b ≡ true)
or-either true b h = inl refl
or-either false b h = inr h

pub or-left : (a b : Bool) → a ≡ true → (a || b) ≡ true
or-left a b h = ap (λ (c : Bool). c || b) h

pub or-right : (a b : Bool) → b ≡ true → (a || b) ≡ true
or-right true b h = refl
or-right false b h = h

pub some-length : (n : ℕ) → 0 < n → not (n == 0) ≡ true
some-length n h = grind (arith, nat_tests)

-- each interface is of the own package, or among the places that are reached
all-reached : (own : ℕ) (places : List ℕ) (k : ℕ) (is : List Interface) → ((j : ℕ) (i : Interface) → slice_get is j ≡ Some i → (i.«package».0 ≡ own) ⊎ Contains places (k + j)) → are_reached own places k is ≡ true
all-reached own places k [] h = refl
all-reached own places k (i ∷ is) h =
    both (is_interface_of own i || is_among places k) (are_reached own places (k + 1) is) (here (h 0 i refl))
    (all-reached own places (k + 1) is (λ j x e. elim (h (suc j) x e) [ inl a ↦ inl a | inr a ↦ inr (subst (Contains places) (next j) a) ]))
  where
    next : (j : ℕ) → k + suc j ≡ k + 1 + j
    next j = omega arith

    none : k + 0 ≡ k
    none = omega arith

    here : (i.«package».0 ≡ own) ⊎ Contains places (k + 0) → (is_interface_of own i || is_among places k) ≡ true
    here (inl e) = or-left (is_interface_of own i) (is_among places k) (eq-eqb i.«package».0 own e)
    here (inr c) = or-right (is_interface_of own i) (is_among places k) (among (subst (Contains places) none c))
      where
        among : Contains places k → is_among places k ≡ true
        among (n, l, e) = list_any-from_Any (λ m. m == k) places (n, k, l, e, eq-eqb k k refl)

-- ---- the table of one package

module _ (s : Resolve) (own : ℕ) (to : Moved) (n : IsNeeded s own to) (tower : IsInTower s) (within : own < length s.packages) (r : Resolve) (t : IsTableOf s to r) where
  -- the own package is the last that is kept
  own-last : place to.packages own + 1 ≡ length r.packages
  own-last =
      last-place to.packages own (n.packages_are.own_one within) (λ j e. last-own s own to n tower.form.earlier j (n.packages_are.only j e)) (omega (arith, within, n.packages_are.count))
      ∙ (sym (length-kept to.packages s.packages (sym n.packages_are.count)) ∙ sym (ap length t.packages))

  last : place to.packages own ≡ own_package r.packages
  last = omega (arith, own-last)

  interface-at : (k : ℕ) (i : Interface) → get_or to.interfaces k false ≡ true → slice_get s.interfaces k ≡ Some i → slice_get r.interfaces (place to.interfaces k) ≡ Some (put_interface (renaming to) i)
  interface-at k i h e =
      ap (λ (is : List Interface). slice_get is (place to.interfaces k)) t.interfaces
      ∙ map-get (put_interface (renaming to)) (items_where_true to.interfaces s.interfaces) (place to.interfaces k) i (kept-at to.interfaces s.interfaces k i h e)

  world-at : (k : ℕ) (w : World) → get_or to.worlds k false ≡ true → slice_get s.worlds k ≡ Some w → slice_get r.worlds (place to.worlds k) ≡ Some (put_world (renaming to) w)
  world-at k w h e =
      ap (λ (ws : List World). slice_get ws (place to.worlds k)) t.worlds
      ∙ map-get (put_world (renaming to)) (items_where_true to.worlds s.worlds) (place to.worlds k) w (kept-at to.worlds s.worlds k w h e)

  -- its interfaces and its worlds are kept
  own-kept : (k : ℕ) (i : Interface) → slice_get s.interfaces k ≡ Some i → i.«package».0 ≡ own → get_or to.interfaces k false ≡ true
  own-kept k i e q =
      let l = slice_get_within s.interfaces k i e in
      let is : is_marked (own_marks s own) (Some (owner.Interface (record { 0 = k }))) ≡ true =
      get_or-map (is_interface_of own) s.interfaces k i true l ∙ (ap (is_interface_of own) (get_or_from_slice_get s.interfaces k i i e) ∙ eq-eqb i.«package».0 own q) in
      interface-there s to (package-part s own to n) k l (n.are_reached.complete (Some (owner.Interface (record { 0 = k }))) (of_start (Some (owner.Interface (record { 0 = k }))) (inl is)))

  world-kept : (k : ℕ) (w : World) → slice_get s.worlds k ≡ Some w → w.«package».0 ≡ own → get_or to.worlds k false ≡ true
  world-kept k w e q =
      ap (λ (bs : List Bool). get_or bs k false) n.worlds_are
      ∙ (get_or-map (is_world_of own) s.worlds k w false (slice_get_within s.worlds k w e) ∙ (ap (is_world_of own) (get_or_from_slice_get s.worlds k w w e) ∙ eq-eqb w.«package».0 own q))

  has-entry : has_own (own_package r.packages) r.interfaces r.worlds ≡ true
  has-entry = elim (or-either (list_any (is_interface_of own) s.interfaces) (list_any (is_world_of own) s.worlds) (tower.entered own within)) [ inl h ↦ by-interface (any-at (is_interface_of own) s.interfaces h) | inr h ↦ by-world (any-at (is_world_of own) s.worlds h) ]
    where
      by-interface : (k : ℕ) × (i : Interface) × (slice_get s.interfaces k ≡ Some i) × (is_interface_of own i ≡ true) → has_own (own_package r.packages) r.interfaces r.worlds ≡ true
      by-interface (k, i, e, h) =
          let same : i.«package».0 ≡ own = eqb-true i.«package».0 own h in
          or-right (not (length r.worlds == 0)) (list_any (is_interface_of (own_package r.packages)) r.interfaces)
          (at-any (is_interface_of (own_package r.packages)) r.interfaces (place to.interfaces k) (put_interface (renaming to) i) (interface-at k i (own-kept k i e same) e) (eq-eqb (place to.packages i.«package».0) (own_package r.packages) (ap (place to.packages) same ∙ last)))

      by-world : (k : ℕ) × (w : World) × (slice_get s.worlds k ≡ Some w) × (is_world_of own w ≡ true) → has_own (own_package r.packages) r.interfaces r.worlds ≡ true
      by-world (k, w, e, h) =
          let same : w.«package».0 ≡ own = eqb-true w.«package».0 own h in
          let there = slice_get_within r.worlds (place to.worlds k) (put_world (renaming to) w) (world-at k w (world-kept k w e same) e) in
          or-left (not (length r.worlds == 0)) (list_any (is_interface_of (own_package r.packages)) r.interfaces) (some-length (length r.worlds) (omega (arith, there)))

  -- its worlds are of it
  worlds-own : list_all (is_world_of (own_package r.packages)) r.worlds ≡ true
  worlds-own = all-from (is_world_of (own_package r.packages)) r.worlds (λ w c. by w (contains-get r.worlds w c))
    where
      by : (w : World) → (k : ℕ) × (slice_get r.worlds k ≡ Some w) → is_world_of (own_package r.packages) w ≡ true
      by w (k, e) =
          let u = map-unget (put_world (renaming to)) (items_where_true to.worlds s.worlds) k w (ap (λ (ws : List World). slice_get ws k) (sym t.worlds) ∙ e) in
          let v = was-kept to.worlds s.worlds k u.0 u.1 in
          let same : u.0.«package».0 ≡ own = eqb-true u.0.«package».0 own (world-own s own to n v.from u.0 v.marked v.stood) in
          let is : place to.packages u.0.«package».0 ≡ w.«package».0 = ap (λ (x : World). x.«package».0) u.2 in
          eq-eqb w.«package».0 (own_package r.packages) (sym is ∙ (ap (place to.packages) same ∙ last))

  -- each package before it has an interface that is reached
  each-package-there : has_each_package (own_package r.packages) 0 r.interfaces ≡ true
  each-package-there =
      has-each s to (package-part s own to n) r t (own_package r.packages) (omega (arith, own-last)) (omega (arith, own-last))
      (λ k l e b. elim (n.packages_are.only k e) [ inl q ↦ absurd (behind k q b) | inr q ↦ q ])
    where
      behind : (k : ℕ) → k ≡ own → place to.packages k < own_package r.packages → ⊥
      behind k q b = let same : place to.packages k ≡ place to.packages own = ap (place to.packages) q in omega (arith, b, same, last)

  -- each interface is its own, or reached
  abbrev IsGiven : ℕ → Type 0
  IsGiven j = (i : Interface) × (slice_get s.interfaces j ≡ Some i) × (i.«package».0 ≡ own)

  starts : (j : ℕ) → j < length s.interfaces → IsStart s (OfPackage own) (Some (owner.Interface (record { 0 = j }))) → Contains (reached r.definitions r.worlds) (place to.interfaces j) ⊎ IsGiven j
  starts j l (inl h) = inr (given (one-there j l))
    where
      one-there : (j : ℕ) → j < length s.interfaces → (i : Interface) × (slice_get s.interfaces j ≡ Some i)
      one-there j l = there s.interfaces j l
        where
          there : (xs : List Interface) (k : ℕ) → k < length xs → (i : Interface) × (slice_get xs k ≡ Some i)
          there [] k b = absurd (omega arith)
          there (x ∷ xs) zero b = (x, refl)
          there (x ∷ xs) (suc k) b = there xs k (omega (arith, b))

      given : (i : Interface) × (slice_get s.interfaces j ≡ Some i) → IsGiven j
      given (i, e) = (i, e, eqb-true i.«package».0 own (sym (get_or-map (is_interface_of own) s.interfaces j i true l ∙ ap (is_interface_of own) (get_or_from_slice_get s.interfaces j i i e)) ∙ h))
  starts j l (inr c) = inl (by (item-of own s.worlds (Some (owner.Interface (record { 0 = j }))) c))
    where
      -- an item of a world that is kept is one there
      item-there : (i : WorldItem) → Contains (owners_in i) (Some (owner.Interface (record { 0 = j }))) → Contains (reached_by_item (put_item (renaming to) i)) (place to.interfaces j)
      item-there i h = kind i.kind h
        where
          kind : (k : WorldItemKind) → Contains (item_owners k) (Some (owner.Interface (record { 0 = j }))) → Contains (reached_by_kind (put_item (renaming to) (record { direction = i.direction; kind = k })).kind) (place to.interfaces j)
          kind (item.Function f) (m, b, e) = absurd (omega (arith, b))
          kind (item.Interface x) (suc m, b, e) = absurd (omega (arith, b))
          kind (item.Interface x) (zero, b, e) = let same : x.0 ≡ j = cc in (0, omega arith, ap (place to.interfaces) same)

      by : (w : World) × Contains s.worlds w × (w.«package».0 ≡ own) × Contains (flat_map owners_in w.items) (Some (owner.Interface (record { 0 = j }))) → Contains (reached r.definitions r.worlds) (place to.interfaces j)
      by (w, there, q, items) =
          let at = contains-get s.worlds w there in
          let stands = world-at at.0 w (world-kept at.0 w at.1 q) at.1 in
          let i = contains-unflat owners_in w.items (Some (owner.Interface (record { 0 = j }))) items in
          contains-right (flat_map (reached_by_row r.definitions) r.definitions) (flat_map reached_by_world r.worlds) (place to.interfaces j)
          (contains-flat reached_by_world r.worlds (put_world (renaming to) w) (place to.interfaces j) (get-contains r.worlds (place to.worlds at.0) (put_world (renaming to) w) stands)
          (contains-flat reached_by_item (map (put_item (renaming to)) w.items) (put_item (renaming to) i.0) (place to.interfaces j) (contains-map (put_item (renaming to)) w.items i.0 i.1) (item-there i.0 i.2)))

  reached-there : are_reached (own_package r.packages) (reached r.definitions r.worlds) 0 r.interfaces ≡ true
  reached-there = all-reached (own_package r.packages) (reached r.definitions r.worlds) 0 r.interfaces by
    where
      by : (j : ℕ) (x : Interface) → slice_get r.interfaces j ≡ Some x → (x.«package».0 ≡ own_package r.packages) ⊎ Contains (reached r.definitions r.worlds) (0 + j)
      by j x e =
          let u = map-unget (put_interface (renaming to)) (items_where_true to.interfaces s.interfaces) j x (ap (λ (is : List Interface). slice_get is j) (sym t.interfaces) ∙ e) in
          let w = was-kept to.interfaces s.interfaces j u.0 u.1 in
          let number : place to.packages u.0.«package».0 ≡ x.«package».0 = ap (λ (z : Interface). z.«package».0) u.2 in
          of w.from u.0 w.stood w.is number
          (kept-cited s (OfPackage own) to (package-part s own to n) n.are_reached r t tower.form.rows tower.form.postfix IsGiven starts w.from (slice_get_within s.interfaces w.from u.0 w.stood) w.marked)
        where
          of : (m : ℕ) (i : Interface) → slice_get s.interfaces m ≡ Some i → place to.interfaces m ≡ j → place to.packages i.«package».0 ≡ x.«package».0
              → Contains (reached r.definitions r.worlds) (place to.interfaces m) ⊎ IsGiven m → (x.«package».0 ≡ own_package r.packages) ⊎ Contains (reached r.definitions r.worlds) (0 + j)
          of m i at is number (inl c) = let there : place to.interfaces m ≡ 0 + j = omega (arith, is) in inr (subst (Contains (reached r.definitions r.worlds)) there c)
          of m i at is number (inr (y, e, q)) =
              let both-there : Some y ≡ Some i = sym e ∙ at in
              let same : y ≡ i = cc in
              inl (sym number ∙ (ap (place to.packages) (ap (λ (z : Interface). z.«package».0) (sym same) ∙ q) ∙ last))

  closed-there : is_closed r ≡ true
  closed-there =
      both (has_own (own_package r.packages) r.interfaces r.worlds) _ has-entry
      (both (are_of_a_set r.packages) _ (subst (λ (ps : List PackageParts). are_of_a_set ps ≡ true) (sym t.packages) (kept-set to.packages s.packages tower.form.packages))
      (both (has_each_package (own_package r.packages) 0 r.interfaces) _ each-package-there
      (both (list_all (is_world_of (own_package r.packages)) r.worlds) _ worlds-own reached-there)))

  rows-there : HasRowsInForm r
  rows-there = rows-in-form s to (package-part s own to n) r t.interfaces t.worlds t.definitions tower.form.rows (before-there s own to n tower.form.earlier)

  postfix-there : IsPostfix r.definitions
  postfix-there = subst IsPostfix (sym t.definitions) (postfix-kept to s.definitions (blocks s to (package-part s own to n)) tower.form.postfix)

  few-there : type_entries (table_of r) ≤ 65535
  few-there =
      let marked : kept_entries s to.interfaces to.worlds to.rows ≡ kept_entries s n.marks.interfaces (map (is_world_of own) s.worlds) (map (is_marked n.marks) (owners s.definitions)) =
      ap (λ (bs : List Bool). kept_entries s bs to.worlds to.rows) n.interfaces_are
      ∙ (ap (λ (bs : List Bool). kept_entries s n.marks.interfaces bs to.rows) n.worlds_are ∙ ap (kept_entries s n.marks.interfaces (map (is_world_of own) s.worlds)) n.rows_are) in
      subst (λ (m : ℕ). m ≤ 65535) (sym (entries-kept s to r t ∙ marked)) (tower.few own within n.marks n.are_reached)

  pub table-form : IsInPackageForm r
  table-form = record {
    closed = closed-there;
    names = subst (λ (ps : List PackageParts). list_all is_package_name ps ≡ true) (sym t.packages) (kept-names to.packages s.packages tower.form.names);
    parted = rows-there.parted;
    interfaces = rows-there.interfaces;
    worlds = rows-there.items;
    postfix = postfix-there;
    entries = few-there;
  }

  pub table-distinct : All AreDistinct (package_scopes r)
  table-distinct =
      let p = package-part s own to n in
      table-scopes s to p tower.form.rows r t (worlds-same s to p r t.packages t.interfaces t.worlds t.definitions) rows-there postfix-there tower.form.scopes
