-- Where names of a set differ, a full name stands for one interface, and a name of an interface for one function or type.
use Rattle.std.proofs.Common.{◌≡◌, inl, inr, ◌⊎◌, ℕ, zero, suc, ◌+◌, ◌-◌, ◌<◌, ◌≤◌, Bool, true, false, cond, ◌||◌, List, [], ◌∷◌, ◌++◌, map, flat_map, length, get_or, slice_get, Option, None, Some, refl, ap, sym, subst, ◌∙◌, arith, true≢false, All, Contains}
use Rattle.std.specs.Option.{option_map}
use Rattle.std.specs.List.{list_all}
use Rattle.std.specs.Str.{bytes_eq}
use Rattle.std.proofs.lemmas.Option.{slice_get_within, get_or_from_slice_get}
use Rattle.std.proofs.lemmas.Slice.Eq.{bytes_eq-Decides}
use Rattle.package_form.specs.Ends.{end_of, rows_of, world_end, world_rows}
use Rattle.package_form.specs.Form.{is_named, ids_of, is_of_world, is_nameless, is_package_name}
use Rattle.package_form.specs.Ids.{places_where, function_id}
use Rattle.package_form.specs.Laws.{IsLabelled, HasOneOfEachName}
use Rattle.package_form.specs.References.{row_references}
use Rattle.package_form.specs.Scope.{AreDistinct}
use Rattle.package_form.proofs.AllAndContains.{all-head, all-get, all-contained, compared, contains-here, contains-later, contains-right, contains-map}
use Rattle.package_form.proofs.NamesStandForOneRow.{named, IsNamedAt, in-rows, is-own, twice-of}
use Rattle.package_form.proofs.FullNamesStandForInterfaces.{HasOneOfEachInterface, full-name-parts, package-there}
use Rattle.package_sets.specs.Set.{ArePackageByPackage, behind_all, an_interface, a_world}
use Rattle.package_sets.specs.SetForm.{IsInSetForm}
use Rattle.package_sets.specs.SetScopes.{names_if, names_at}
use Rattle.package_sets.proofs.AttachedSets.NamesTellTheSet.{name-get}
use Rattle.package_sets.proofs.OwnedRows.EachRowHasAnOwner.{row-block}
use Rattle.package_sets.proofs.KeptParts.PropertiesOfKept.{list-at}
use Rattle.package_sets.proofs.GrowingLists.{one-there, contains-get, get-contains}
use Rattle.tables.specs.Names.{full_name_in, full_name}
use Rattle.tables.specs.Package.{Key, key_of, is_same_key, is_known, interface_names, IsDistinctName, HasDistinctTypes}
use Rattle.tables.specs.PackageNames.{PackageParts}
use Rattle.tables.specs.Tables.{function_of}
use Rattle.tables.proofs.NamesEarlierTypes.{grouped-at}
use Rattle.tables.proofs.ClosedTypesRowByRow.{split}
use Rattle.tables.specs.declared.tables.FunctionId.{FunctionId}
use Rattle.tables.specs.declared.tables.Function.{Function}
use Rattle.tables.specs.declared.tables.TypeName.{TypeName}
use Rattle.tables.specs.declared.tables.TypeDefKind.{TypeDefKind}
use Rattle.tables.specs.declared.tables.Definition.{Definition}
use Rattle.tables.specs.declared.tables.Definition.TheVariants as row
use Rattle.tables.specs.declared.tables.Interface.{Interface}
use Rattle.tables.specs.declared.tables.World.{World}
use Rattle.tables.specs.declared.tables.Resolve.{Resolve}

-- ---- the rows of an interface

place-of : (n : ℕ) (ds : List Definition) (j : ℕ) (d : Definition) → slice_get ds j ≡ Some d → is_named d ≡ true → Contains (places_where is_named n ds) (n + j)
place-of n [] j d e h = absurd (cc)
place-of n (c ∷ ds) zero d e h =
    let same : c ≡ d = cc in
    let first : is_named c ≡ true = ap is_named same ∙ h in
    let at : n ≡ n + 0 = omega arith in
    rw first (subst (Contains (n ∷ places_where is_named (n + 1) ds)) at (contains-here n (places_where is_named (n + 1) ds)))
place-of n (c ∷ ds) (suc j) d e h = by (is_named c) (subst (Contains (places_where is_named (n + 1) ds)) (omega arith) (place-of (n + 1) ds j d e h))
  where
    by : (b : Bool) → Contains (places_where is_named (n + 1) ds) (n + suc j) → Contains (cond b (n ∷ places_where is_named (n + 1) ds) (places_where is_named (n + 1) ds)) (n + suc j)
    by true r = contains-later n (n + suc j) (places_where is_named (n + 1) ds) r
    by false r = r

-- the type of this name, at this place, is one of interface n of these
pub record IsTypeIn (is : List Interface) (k a : ℕ) (y : TypeName) : Type 0 where
  pub place : ℕ
  pub interface : Interface
  pub named_by : y.interface.0 ≡ k + place
  pub at : slice_get is place ≡ Some interface
  pub id : Contains (ids_of interface) a

module _ (rows : List Definition) where
  not-of-world : (k : ℕ) (y : TypeName) (c : TypeDefKind) → is_of_world k (named y c) ≡ true → ⊥
  unfolding named
  not-of-world k y c h = absurd (cc)

  is-named : (y : TypeName) (c : TypeDefKind) → is_named (named y c) ≡ true
  unfolding named
  is-named y c = refl

  pub type-in : (start k : ℕ) (is : List Interface) (j : ℕ) (ws : List World) → ArePackageByPackage rows start k is j ws → (a : ℕ) (y : TypeName) → start ≤ a → IsNamedAt rows a y → IsTypeIn is k a y
  type-in _ _ _ _ _ (behind_all start k j e) a y l h = absurd (omega (arith, l, e, slice_get_within rows a (named y h.0) h.1))
  type-in _ _ _ _ _ (an_interface start k i is j ws here before rest) a y l h = by (cut a (end_of start i)) (λ m. type-in (end_of start i) (k + 1) is j ws rest a y m h)
    where
      cut : (n m : ℕ) → (n < m) ⊎ (m ≤ n)
      cut n m = grind arith

      ids : ids_of i ≡ places_where is_named start (rows_of rows start i)
      ids = (bytes_eq-Decides (ids_of i) (places_where is_named start (rows_of rows start i))).0 (split (bytes_eq (ids_of i) (places_where is_named start (rows_of rows start i))) _ here.ids).0

      by : (a < end_of start i) ⊎ (end_of start i ≤ a) → (end_of start i ≤ a → IsTypeIn is (k + 1) a y) → IsTypeIn (i ∷ is) k a y
      by (inl m) other =
          let at : start + (a - start) ≡ a = omega (arith, l) in
          let place = place-of start (rows_of rows start i) (a - start) (named y h.0) (in-rows rows start i a l m ∙ h.1) (is-named y h.0) in
          record {
            place = 0;
            interface = i;
            named_by = omega (arith, is-own rows k start i here.local a y l m h);
            at = refl;
            id = subst (λ (ns : List ℕ). Contains ns a) (sym ids) (subst (Contains (places_where is_named start (rows_of rows start i))) at place);
          }
      by (inr m) other =
          let t = other m in
          record { place = suc t.place; interface = t.interface; named_by = omega (arith, t.named_by); at = t.at; id = t.id }
  type-in _ _ _ _ _ (a_world start k is j w ws here later rest) a y l h = by (cut a (world_end start w)) (λ m. type-in (world_end start w) k is (j + 1) ws rest a y m h)
    where
      cut : (n m : ℕ) → (n < m) ⊎ (m ≤ n)
      cut n m = grind arith

      by : (a < world_end start w) ⊎ (world_end start w ≤ a) → (world_end start w ≤ a → IsTypeIn is k a y) → IsTypeIn is k a y
      by (inr m) other = other m
      by (inl m) other =
          let at : start + (a - start) ≡ a = omega (arith, l) in
          let row = row-block rows start (world_end start w) (a - start) (named y h.0) (omega (arith, l, m)) (ap (slice_get rows) at ∙ h.1) in
          let local = list-at _ (world_rows rows start w) (a - start) (named y h.0) here.local row in
          absurd (not-of-world j y h.0 (split (is_of_world j (named y h.0)) (list_all (is_nameless rows) (row_references (named y h.0))) local).0)

-- ---- one name of a scope

one-place : (ns : List ℕ) (f : ℕ → List (List ℕ)) (x y : ℕ) (n : List ℕ) → AreDistinct (flat_map f ns) → Contains ns x → Contains ns y → Contains (f x) n → Contains (f y) n → x ≡ y
one-place ns f x y n d cx cy nx ny =
    let a = contains-get ns x cx in
    let b = contains-get ns y cy in
    elim (compared a.0 b.0) [
      | inl q ↦ absurd (twice-of f ns a.0 b.0 x y n q a.1 b.1 nx ny d)
      | inr q ↦ elim q [
        | inl r ↦ absurd (twice-of f ns b.0 a.0 y x n r b.1 a.1 ny nx d)
        | inr r ↦ some-is (sym a.1 ∙ (ap (slice_get ns) r ∙ b.1))
      ]
    ]
  where
    some-is : Some x ≡ Some y → x ≡ y
    some-is e = cc

-- a function of this name
called : (o : Option Definition) (name : List ℕ) → option_map (λ (g : Function). g.name) (function_of o) ≡ Some name → Contains (names_if o) name
called None name e = absurd (cc)
called (Some (row.Type d)) name e = absurd (cc)
called (Some (row.Function f)) name e = let same : f.name ≡ name = cc in subst (Contains (f.name ∷ [])) same (contains-here f.name [])

-- a type of this name
typed : (rows : List Definition) (a : ℕ) (y : TypeName) → IsNamedAt rows a y → Contains (names_at rows a) y.name
unfolding named
typed rows a y h = subst (λ (o : Option Definition). Contains (names_if o) y.name) (sym h.1) (contains-here y.name [])

-- ---- a set

module _ (r : Resolve) (form : IsInSetForm r) (labels : All IsLabelled r.interfaces) where
  package-below : (m : ℕ) (i : Interface) → slice_get r.interfaces m ≡ Some i → i.«package».0 < length r.packages
  package-below m i e = grouped-at (length r.packages) 0 r.interfaces m i r.grouped (slice_get_within r.interfaces m i e) (get_or_from_slice_get r.interfaces m i i e)

  pub one-interface : HasOneOfEachInterface r
  one-interface = record { each = each }
    where
      each : (m n : ℕ) → m < length r.interfaces → n < length r.interfaces → get_or (interface_names r) m [] ≡ get_or (interface_names r) n [] → m ≡ n
      each m n l k e =
          let i = one-there r.interfaces m l in
          let j = one-there r.interfaces n k in
          let p = package-there r.packages i.0.«package».0 (package-below m i.0 i.1) in
          let q = package-there r.packages j.0.«package».0 (package-below n j.0 j.1) in
          let full : full_name r i.0 ≡ full_name r j.0 = sym (name-get (full_name r) r.interfaces m i.0 i.1) ∙ (e ∙ name-get (full_name r) r.interfaces n j.0 j.1) in
          let whole = ap (λ (o : Option PackageParts). full_name_in o i.0.name) (sym p.1) ∙ (full ∙ ap (λ (o : Option PackageParts). full_name_in o j.0.name) q.1) in
          let parts = full-name-parts p.0 q.0 i.0.name j.0.name (all-get is_package_name r.packages i.0.«package».0 p.0 form.names p.1) (all-get is_package_name r.packages j.0.«package».0 q.0 form.names q.1)
          (all-contained IsLabelled r.interfaces i.0 labels (get-contains r.interfaces m i.0 i.1)) (all-contained IsLabelled r.interfaces j.0 labels (get-contains r.interfaces n j.0 j.1)) whole in
          form.apart.each m n i.0 j.0 i.1 j.1 (p.1 ∙ (ap Some parts.0 ∙ sym q.1)) parts.1

  scope : (i : Interface) → Contains r.interfaces i → AreDistinct (flat_map (names_at r.definitions) (ids_of i))
  scope i c = all-head AreDistinct _ _ (form.scopes.interfaces i c)

  pub one-function : HasOneOfEachName r
  one-function iface name f g x y = ap function_id (one-place (ids_of x.0) (names_at r.definitions) f.0 g.0 name (scope x.0 x.1) (id x.0 f x.3.0) (id x.0 g (subst (λ (i : Interface). Contains i.functions g) (sym same) y.3.0))
      (called (slice_get r.definitions f.0) name x.3.1) (called (slice_get r.definitions g.0) name y.3.1))
    where
      id : (i : Interface) (h : FunctionId) → Contains i.functions h → Contains (ids_of i) h.0
      id i h c = contains-right (map (λ t. t.0) i.uses) _ h.0 (contains-right (map (λ t. t.0) i.types) _ h.0 (contains-map (λ (t : FunctionId). t.0) i.functions h c))

      same : x.0 ≡ y.0
      same =
          let a = contains-get r.interfaces x.0 x.1 in
          let b = contains-get r.interfaces y.0 y.1 in
          let names = name-get (full_name r) r.interfaces a.0 x.0 a.1 ∙ (sym x.2 ∙ (y.2 ∙ sym (name-get (full_name r) r.interfaces b.0 y.0 b.1))) in
          let at = one-interface.each a.0 b.0 (slice_get_within r.interfaces a.0 x.0 a.1) (slice_get_within r.interfaces b.0 y.0 b.1) names in
          some-is (sym a.1 ∙ (ap (slice_get r.interfaces) at ∙ b.1))
        where
          some-is : Some x.0 ≡ Some y.0 → x.0 ≡ y.0
          some-is e = cc

  abbrev ns : List (List ℕ)
  ns = interface_names r

  pub in-interface : (a : ℕ) (y : TypeName) → IsNamedAt r.definitions a y → IsTypeIn r.interfaces 0 a y
  in-interface a y h = type-in r.definitions 0 0 r.interfaces 0 r.worlds form.rows.stands a y (omega arith) h

  one-type : (a b : ℕ) (m n : TypeName) → IsNamedAt r.definitions a m → IsNamedAt r.definitions b n → is_same_key (key_of ns m) (key_of ns n) ≡ true → a ≡ b
  one-type a b m n x y h =
      let s = split (bytes_eq (key_of ns m).interface (key_of ns n).interface) (bytes_eq m.name n.name) h in
      let u = in-interface a m x in
      let v = in-interface b n y in
      let at : m.interface.0 ≡ n.interface.0 = one-interface.each m.interface.0 n.interface.0
      (omega (arith, u.named_by, slice_get_within r.interfaces u.place u.interface u.at)) (omega (arith, v.named_by, slice_get_within r.interfaces v.place v.interface v.at))
      ((bytes_eq-Decides (key_of ns m).interface (key_of ns n).interface).0 s.0) in
      let place : u.place ≡ v.place = omega (arith, at, u.named_by, v.named_by) in
      let same : u.interface ≡ v.interface = some-is u.interface v.interface (sym u.at ∙ (ap (slice_get r.interfaces) place ∙ v.at)) in
      one-place (ids_of u.interface) (names_at r.definitions) a b m.name (scope u.interface (get-contains r.interfaces u.place u.interface u.at)) u.id
      (subst (λ (i : Interface). Contains (ids_of i) b) (sym same) v.id) (typed r.definitions a m x)
      (subst (Contains (names_at r.definitions b)) (sym ((bytes_eq-Decides m.name n.name).0 s.1)) (typed r.definitions b n y))
    where
      some-is : (i j : Interface) → Some i ≡ Some j → i ≡ j
      some-is i j e = cc

-- ---- types of keys that differ

known-push : (seen : List Key) (k n : Key) → is_known seen n ≡ false → is_same_key k n ≡ false → is_known (seen ++ k ∷ []) n ≡ false
known-push [] k n a b = rw b refl
known-push (m ∷ seen) k n a b = by (is_same_key m n) a (known-push seen k n)
  where
    by : (c : Bool) → (c || is_known seen n) ≡ false → (is_known seen n ≡ false → is_same_key k n ≡ false → is_known (seen ++ k ∷ []) n ≡ false) → (c || is_known (seen ++ k ∷ []) n) ≡ false
    by true h rest = absurd (true≢false h)
    by false h rest = rest h b

apart : (ns : List (List ℕ)) (ds : List Definition) (seen : List Key) → ((b : ℕ) (n : TypeName) → IsNamedAt ds b n → is_known seen (key_of ns n) ≡ false)
    → ((a b : ℕ) (m n : TypeName) → IsNamedAt ds a m → IsNamedAt ds b n → is_same_key (key_of ns m) (key_of ns n) ≡ true → a ≡ b) → HasDistinctTypes ns ds seen
unfolding named
apart ns [] seen new one = tt
apart ns (row.Function f ∷ ds) seen new one = apart ns ds seen (λ b n h. new (suc b) n h) (λ a b m n x y h. let e = one (suc a) (suc b) m n x y h in omega (arith, e))
apart ns (row.Type d ∷ ds) seen new one =
    by d.name refl (λ more fresh. apart ns ds more fresh (λ a b m n x y h. let e = one (suc a) (suc b) m n x y h in omega (arith, e)))
  where
    here : (n : TypeName) → d.name ≡ Some n → IsNamedAt (row.Type d ∷ ds) 0 n
    here n e = (d.kind, ap (λ (o : Option TypeName). Some (row.Type (record { name = o; kind = d.kind }))) e)

    other : (n : TypeName) → d.name ≡ Some n → (b : ℕ) (m : TypeName) → IsNamedAt ds b m → (c : Bool) → is_same_key (key_of ns n) (key_of ns m) ≡ c → c ≡ false
    other n e b m h false q = refl
    other n e b m h true q = absurd (omega (arith, one 0 (suc b) n m (here n e) h q))

    by : (o : Option TypeName) → d.name ≡ o → ((more : List Key) → ((b : ℕ) (n : TypeName) → IsNamedAt ds b n → is_known more (key_of ns n) ≡ false) → HasDistinctTypes ns ds more)
        → IsDistinctName ns seen o (HasDistinctTypes ns ds)
    by None e rest = rest seen (λ b n h. new (suc b) n h)
    by (Some n) e rest = (
      new 0 n (here n e),
      rest (seen ++ key_of ns n ∷ []) (λ b m h. known-push seen (key_of ns n) (key_of ns m) (new (suc b) m h) (let q = other n e b m h _ refl in q)),
    )

pub types-apart : (r : Resolve) → IsInSetForm r → All IsLabelled r.interfaces → HasDistinctTypes (interface_names r) r.definitions []
types-apart r form labels = apart (interface_names r) r.definitions [] (λ b n h. refl) (one-type r form labels)
