-- The ids of an interface: its rows with names, and where it is put, the places of those that it had.
use Rattle.std.proofs.Common.{◌≡◌, ◌≤◌, ◌<◌, ◌⊎◌, inl, inr, ℕ, zero, suc, ◌+◌, ◌-◌, Bool, true, false, not, ◌&&◌, List, [], ◌∷◌, ◌++◌, map, slice_get, Option, None, Some, ap, sym, subst, ◌∙◌, arith, refl, true≢false}
use Rattle.std.specs.Prelude.{Contains, filter}
use Rattle.std.specs.List.{list_all}
use Rattle.std.specs.Str.{bytes_eq}
use Rattle.std.proofs.lemmas.Slice.Eq.{bytes_eq-Decides}
use Rattle.std.proofs.lemmas.Option.{slice_get_within}
use Rattle.package_form.specs.Ids.{places_where}
use Rattle.package_form.specs.Ends.{end_of, rows_of, world_end, world_rows}
use Rattle.package_form.specs.Form.{is_named, ids_of, is_local, is_use_at, is_world_row}
use Rattle.package_form.proofs.AllAndContains.{contains-here, contains-later, contains-left, contains-right, contains-either, contains-map, contains-unmap}
use Rattle.tables.specs.Tables.{type_of, function_of, is_there, is_type_id, is_function_id, is_placed}
use Rattle.tables.proofs.ClosedTypesRowByRow.{split}
use Rattle.tables.specs.declared.tables.TypeId.{TypeId}
use Rattle.tables.specs.declared.tables.FunctionId.{FunctionId}
use Rattle.tables.specs.declared.tables.Owner.TheVariants as owner
use Rattle.tables.specs.declared.tables.Definition.{Definition}
use Rattle.tables.specs.declared.tables.InterfaceId.{InterfaceId}
use Rattle.tables.specs.declared.tables.Interface.{Interface}
use Rattle.tables.specs.declared.tables.World.{World}
use Rattle.tables.specs.Names.{owner_of}
use Rattle.package_sets.specs.Joining.{HasIds}
use Rattle.set_rows.specs.Moved.{Renaming, put_id, put_function_id, has_type, has_function, put_types, put_functions}
use Rattle.package_sets.specs.Set.{ArePackageByPackage, behind_all, an_interface, a_world}
use Rattle.package_sets.proofs.OwnedRows.EachRowHasAnOwner.{row-block, local-owned, world-owned, named-owned}
use Rattle.package_sets.proofs.KeptParts.ClosedTypesStay.{contains-kept}
use Rattle.package_sets.proofs.KeptParts.PropertiesOfKept.{list-at}
use Rattle.package_sets.proofs.GrowingLists.{contains-get}
use Rattle.package_sets.proofs.OwnedRows.RowsAreOwned.{cut}

-- the place of a row with the property is one of theirs
place-in : (is : Definition → Bool) (n : ℕ) (ds : List Definition) (j : ℕ) (d : Definition) → slice_get ds j ≡ Some d → is d ≡ true → Contains (places_where is n ds) (n + j)
place-in is n [] j d e h = absurd (cc)
place-in is n (c ∷ ds) zero d e h =
    let same : c ≡ d = cc in
    let first : n ≡ n + 0 = omega arith in
    rw (ap is same ∙ h) (subst (λ (m : ℕ). Contains (n ∷ places_where is (n + 1) ds) m) first (contains-here n (places_where is (n + 1) ds)))
place-in is n (c ∷ ds) (suc j) d e h = by (is c) refl (subst (λ (m : ℕ). Contains (places_where is (n + 1) ds) m) (next n j) (place-in is (n + 1) ds j d e h))
  where
    next : (n m : ℕ) → n + 1 + m ≡ n + suc m
    next n m = omega arith

    by : (b : Bool) → is c ≡ b → Contains (places_where is (n + 1) ds) (n + suc j) → Contains (places_where is n (c ∷ ds)) (n + suc j)
    by true q r = rw q (contains-later n (n + suc j) (places_where is (n + 1) ds) r)
    by false q r = rw q r

-- the row at place t is one of the ids of interface a, one of these, the first of which is interface k
pub record IsIdOf (is : List Interface) (k a t : ℕ) : Type 0 where
  pub place : ℕ
  pub one : Interface
  pub number : k + place ≡ a
  pub at : slice_get is place ≡ Some one
  pub has : Contains (ids_of one) t

pub id-of : (rows : List Definition) (start k : ℕ) (is : List Interface) (j : ℕ) (ws : List World) → ArePackageByPackage rows start k is j ws → (t : ℕ) (d : Definition) → start ≤ t → slice_get rows t ≡ Some d → is_named d ≡ true
    → (a : ℕ) → owner_of d ≡ Some (owner.Interface (record { 0 = a })) → IsIdOf is k a t
id-of rows _ _ _ _ _ (behind_all start k j e) t d l h n a o = absurd (omega (arith, l, e, slice_get_within rows t d h))
id-of rows _ _ _ _ _ (an_interface start k i is j ws b before rest) t d l h n a o = by (cut t (end_of start i)) (λ g. id-of rows (end_of start i) (k + 1) is j ws rest t d g h n a o)
  where
    at : start + (t - start) ≡ t
    at = omega arith

    ids : ids_of i ≡ places_where is_named start (rows_of rows start i)
    ids = (bytes_eq-Decides (ids_of i) (places_where is_named start (rows_of rows start i))).0
        (split (bytes_eq (ids_of i) (places_where is_named start (rows_of rows start i))) (list_all (is_use_at rows) i.uses && list_all (λ t. not (is_use_at rows t)) i.types) b.ids).0

    number : (x y : InterfaceId) → Some (owner.Interface x) ≡ Some (owner.Interface y) → x.0 ≡ y.0
    number x y e = let same : x ≡ y = cc in ap (λ (z : InterfaceId). z.0) same

    by : (t < end_of start i) ⊎ (end_of start i ≤ t) → (end_of start i ≤ t → IsIdOf is (k + 1) a t) → IsIdOf (i ∷ is) k a t
    by (inl m) other =
        let there : slice_get (rows_of rows start i) (t - start) ≡ Some d = row-block rows start (end_of start i) (t - start) d (omega arith) (ap (slice_get rows) at ∙ h) in
        let own = named-owned d (owner.Interface (record { 0 = k })) n (local-owned rows k d (list-at (is_local rows k) (rows_of rows start i) (t - start) d b.local there)) in
        record {
          place = 0;
          one = i;
          number = omega (arith, number (record { 0 = k }) (record { 0 = a }) (sym own ∙ o));
          at = refl;
          has = subst (λ (m : ℕ). Contains (ids_of i) m) at (subst (λ (ns : List ℕ). Contains ns (start + (t - start))) (sym ids) (place-in is_named start (rows_of rows start i) (t - start) d there n));
        }
    by (inr g) other = let r = other g in record { place = suc r.place; one = r.one; number = omega (arith, r.number); at = r.at; has = r.has }
id-of rows _ _ _ _ _ (a_world start k is j w ws b later rest) t d l h n a o = by (cut t (world_end start w)) (λ g. id-of rows (world_end start w) k is (j + 1) ws rest t d g h n a o)
  where
    at : start + (t - start) ≡ t
    at = omega arith

    other-owner : owner_of d ≡ Some (owner.World (record { 0 = j })) → owner_of d ≡ Some (owner.Interface (record { 0 = a })) → ⊥
    other-owner e f = let q : Some (owner.World (record { 0 = j })) ≡ Some (owner.Interface (record { 0 = a })) = sym e ∙ f in cc

    by : (t < world_end start w) ⊎ (world_end start w ≤ t) → (world_end start w ≤ t → IsIdOf is k a t) → IsIdOf is k a t
    by (inl m) other =
        let there : slice_get (world_rows rows start w) (t - start) ≡ Some d = row-block rows start (world_end start w) (t - start) d (omega arith) (ap (slice_get rows) at ∙ h) in
        absurd (other-owner (named-owned d (owner.World (record { 0 = j })) n (world-owned rows j d (list-at (is_world_row rows j) (world_rows rows start w) (t - start) d b.local there))) o)
    by (inr g) other = other g

-- ---- ids of an interface that is put elsewhere

-- an id is that of one before
abbrev pub WasId : Renaming → List ℕ → ℕ → Type 0
WasId to ids x = (y : ℕ) × Contains ids y × (to.rows y ≡ x)

type-was : (to : Renaming) (ts : List TypeId) (x : ℕ) → Contains (map (λ t. t.0) (put_types to ts)) x → WasId to (map (λ t. t.0) ts) x
type-was to ts x c =
    let u = contains-unmap (λ (t : TypeId). t.0) (put_types to ts) x c in
    let v = contains-unmap (put_id to) (filter (has_type to) ts) u.0 u.1 in
    (v.0.0, contains-map (λ (t : TypeId). t.0) ts v.0 (contains-kept (has_type to) ts v.0 v.1).0, ap (λ (t : TypeId). t.0) v.2 ∙ u.2)

function-was : (to : Renaming) (fs : List FunctionId) (x : ℕ) → Contains (map (λ f. f.0) (put_functions to fs)) x → WasId to (map (λ f. f.0) fs) x
function-was to fs x c =
    let u = contains-unmap (λ (f : FunctionId). f.0) (put_functions to fs) x c in
    let v = contains-unmap (put_function_id to) (filter (has_function to) fs) u.0 u.1 in
    (v.0.0, contains-map (λ (f : FunctionId). f.0) fs v.0 (contains-kept (has_function to) fs v.0 v.1).0, ap (λ (f : FunctionId). f.0) v.2 ∙ u.2)

pub id-was : (to : Renaming) (i x : Interface) → HasIds to i x → (n : ℕ) → Contains (ids_of x) n → WasId to (ids_of i) n
id-was to i x h n c = by (contains-either (map (λ t. t.0) x.uses) (map (λ t. t.0) x.types ++ map (λ f. f.0) x.functions) n c)
  where
    others : Contains (map (λ t. t.0) x.types) n ⊎ Contains (map (λ f. f.0) x.functions) n → WasId to (ids_of i) n
    others (inl a) = let w = type-was to i.types n (subst (λ (ts : List TypeId). Contains (map (λ t. t.0) ts) n) h.types a) in (w.0, contains-right (map (λ t. t.0) i.uses) _ w.0 (contains-left (map (λ t. t.0) i.types) _ w.0 w.1), w.2)
    others (inr a) = let w = function-was to i.functions n (subst (λ (fs : List FunctionId). Contains (map (λ f. f.0) fs) n) h.functions a) in (w.0, contains-right (map (λ t. t.0) i.uses) _ w.0 (contains-right (map (λ t. t.0) i.types) _ w.0 w.1), w.2)

    by : Contains (map (λ t. t.0) x.uses) n ⊎ Contains (map (λ t. t.0) x.types ++ map (λ f. f.0) x.functions) n → WasId to (ids_of i) n
    by (inl a) = let w = type-was to i.uses n (subst (λ (ts : List TypeId). Contains (map (λ t. t.0) ts) n) h.uses a) in (w.0, contains-left (map (λ t. t.0) i.uses) _ w.0 w.1, w.2)
    by (inr b) = others (contains-either (map (λ t. t.0) x.types) (map (λ f. f.0) x.functions) n b)

-- ---- each id is a row

some-row : {A : Type 0} (of : Option Definition → Option A) (none : of None ≡ None) (o : Option Definition) → is_there (of o) ≡ true → (d : Definition) × (o ≡ Some d)
some-row of none None h = absurd (true≢false (sym h ∙ ap is_there none))
some-row of none (Some d) h = (d, refl)

pub id-there : (rows : List Definition) (i : Interface) → is_placed rows i ≡ true → (n : ℕ) → Contains (ids_of i) n → (d : Definition) × (slice_get rows n ≡ Some d)
id-there rows i h n c = by (contains-either (map (λ t. t.0) i.uses) (map (λ t. t.0) i.types ++ map (λ f. f.0) i.functions) n c)
  where
    p : (list_all (is_type_id rows) i.uses ≡ true) × ((list_all (is_type_id rows) i.types && list_all (is_function_id rows) i.functions) ≡ true)
    p = split (list_all (is_type_id rows) i.uses) (list_all (is_type_id rows) i.types && list_all (is_function_id rows) i.functions) h

    q : (list_all (is_type_id rows) i.types ≡ true) × (list_all (is_function_id rows) i.functions ≡ true)
    q = split (list_all (is_type_id rows) i.types) (list_all (is_function_id rows) i.functions) p.1

    type-row : (ts : List TypeId) → list_all (is_type_id rows) ts ≡ true → Contains (map (λ t. t.0) ts) n → (d : Definition) × (slice_get rows n ≡ Some d)
    type-row ts all a =
        let u = contains-unmap (λ (t : TypeId). t.0) ts n a in
        let v = contains-get ts u.0 u.1 in
        let s = some-row type_of refl (slice_get rows u.0.0) (list-at (is_type_id rows) ts v.0 u.0 all v.1) in
        (s.0, ap (slice_get rows) (sym u.2) ∙ s.1)

    function-row : (fs : List FunctionId) → list_all (is_function_id rows) fs ≡ true → Contains (map (λ f. f.0) fs) n → (d : Definition) × (slice_get rows n ≡ Some d)
    function-row fs all a =
        let u = contains-unmap (λ (f : FunctionId). f.0) fs n a in
        let v = contains-get fs u.0 u.1 in
        let s = some-row function_of refl (slice_get rows u.0.0) (list-at (is_function_id rows) fs v.0 u.0 all v.1) in
        (s.0, ap (slice_get rows) (sym u.2) ∙ s.1)

    by : Contains (map (λ t. t.0) i.uses) n ⊎ Contains (map (λ t. t.0) i.types ++ map (λ f. f.0) i.functions) n → (d : Definition) × (slice_get rows n ≡ Some d)
    by (inl a) = type-row i.uses p.0 a
    by (inr b) = elim (contains-either (map (λ t. t.0) i.types) (map (λ f. f.0) i.functions) n b) [ inl a ↦ type-row i.types q.0 a | inr a ↦ function-row i.functions q.1 a ]
