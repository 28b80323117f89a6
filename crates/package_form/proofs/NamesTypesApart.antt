-- Where names differ, no interface has two types of one name.
use Rattle.std.proofs.Common.{◌≡◌, ℕ, suc, ◌+◌, ◌<◌, ◌≤◌, Bool, true, false, ◌||◌, nat_lt, List, [], ◌∷◌, ◌++◌, length, slice_get, Option, None, Some, refl, ap, sym, subst, ◌∙◌, arith, append_assoc, All}
use Rattle.std.proofs.lemmas.Bool.Decides.{nat_tests}
use Rattle.std.proofs.lemmas.List.{append-nil}
use Rattle.std.proofs.lemmas.Slice.Eq.{bytes_eq-Decides}
use Rattle.std.specs.Str.{bytes_eq}
use Rattle.tables.specs.Package.{Key, key_of, is_same_key, is_known, interface_names, IsDistinctName, HasDistinctTypes}
use Rattle.tables.specs.declared.tables.TypeDefKind.{TypeDefKind}
use Rattle.tables.specs.declared.tables.TypeName.{TypeName}
use Rattle.tables.specs.declared.tables.Definition.{Definition}
use Rattle.tables.specs.declared.tables.Definition.TheVariants as row
use Rattle.tables.specs.declared.tables.Interface.{Interface}
use Rattle.tables.specs.declared.tables.Resolve.{Resolve}
use Rattle.tables.proofs.ClosedTypesRowByRow.{split}
use Rattle.package_form.specs.Scope.{AreDistinct}
use Rattle.package_form.specs.Ends.{end_of, interfaces_end}
use Rattle.package_form.specs.Form.{are_interfaces, IsInPackageForm}
use Rattle.package_form.specs.Naming.{interfaces_scopes}
use Rattle.package_form.specs.Laws.{NamesTypesApart}
use Rattle.package_form.proofs.FullNamesStandForInterfaces.{HasOneOfEachInterface}
use Rattle.package_form.proofs.AllAndContains.{get-front}
use Rattle.package_form.proofs.ScopesAreDistinct.{interfaces-distinct}
use Rattle.package_form.proofs.NamesStandForOneRow.{named, IsNamedAt, NoneFrom, none-named, worlds-parted, forms-on, locals-in, is-own, unique}

-- ---- the keys of the types of these rows

abbrev key_if : List (List ℕ) → Option TypeName → List Key
key_if ns None = []
key_if ns (Some n) = key_of ns n ∷ []

abbrev row_key : List (List ℕ) → Definition → List Key
row_key ns (row.Type d) = key_if ns d.name
row_key ns (row.Function f) = []

abbrev row_keys : List (List ℕ) → List Definition → List Key
row_keys ns [] = []
row_keys ns (d ∷ ds) = row_key ns d ++ row_keys ns ds

keys-end : (ns : List (List ℕ)) (ds : List Definition) (d : Definition) → row_keys ns (ds ++ d ∷ []) ≡ row_keys ns ds ++ row_key ns d
keys-end ns [] d = append-nil (row_key ns d)
keys-end ns (e ∷ ds) d = ap (λ (ks : List Key). row_key ns e ++ ks) (keys-end ns ds d) ∙ sym (append_assoc (row_key ns e) (row_keys ns ds) (row_key ns d))

same-key : (a b : Key) → is_same_key a b ≡ true → (a.interface ≡ b.interface) × (a.name ≡ b.name)
same-key a b h =
    let s = split (bytes_eq a.interface b.interface) (bytes_eq a.name b.name) h in
    ((bytes_eq-Decides a.interface b.interface).0 s.0, (bytes_eq-Decides a.name b.name).0 s.1)

-- a type of a known key stands at some place
abbrev StandsAs : List (List ℕ) → List Definition → Key → Type 0
StandsAs ns ds key = (a : ℕ) × (m : TypeName) × (a < length ds) × IsNamedAt ds a m × (is_same_key (key_of ns m) key ≡ true)

one-later : (ns : List (List ℕ)) (d : Definition) (ds : List Definition) (key : Key) → StandsAs ns ds key → StandsAs ns (d ∷ ds) key
one-later ns d ds key h = (suc h.0, h.1, omega (arith, h.2), h.3, h.4)

stands-as : (ns : List (List ℕ)) (ds : List Definition) (key : Key) → is_known (row_keys ns ds) key ≡ true → StandsAs ns ds key
unfolding named
stands-as ns [] key h = absurd (cc)
stands-as ns (row.Function f ∷ ds) key h = one-later ns (row.Function f) ds key (stands-as ns ds key h)
stands-as ns (row.Type d ∷ ds) key h = by d.name refl (λ k. one-later ns (row.Type d) ds key (stands-as ns ds key k)) h
  where
    here : (n : TypeName) → d.name ≡ Some n → IsNamedAt (row.Type d ∷ ds) 0 n
    here n e = (d.kind, ap (λ (o : Option TypeName). Some (row.Type (record { name = o; kind = d.kind }))) e)

    either : (n : TypeName) → d.name ≡ Some n → (b : Bool) → is_same_key (key_of ns n) key ≡ b → (is_known (row_keys ns ds) key ≡ true → StandsAs ns (row.Type d ∷ ds) key)
        → (b || is_known (row_keys ns ds) key) ≡ true → StandsAs ns (row.Type d ∷ ds) key
    either n e true q later k = (0, n, omega arith, here n e, q)
    either n e false q later k = later k

    by : (o : Option TypeName) → d.name ≡ o → (is_known (row_keys ns ds) key ≡ true → StandsAs ns (row.Type d ∷ ds) key)
        → is_known (key_if ns o ++ row_keys ns ds) key ≡ true → StandsAs ns (row.Type d ∷ ds) key
    by None e later k = later k
    by (Some n) e later k = either n e (is_same_key (key_of ns n) key) refl later k

-- ---- the interface of a type is one of the package's

module _ (rows : List Definition) where
  in-range : (k start : ℕ) (is : List Interface) → NoneFrom rows (interfaces_end start is) → are_interfaces rows k start is ≡ true → (a : ℕ) (y : TypeName) → start ≤ a
      → IsNamedAt rows a y → y.interface.0 < k + length is
  in-range k start [] p f a y l h = absurd (p a y l h)
  in-range k start (i ∷ is) p f a y l h =
      by (nat_lt a (end_of start i)) refl (λ m. in-range (k + 1) (end_of start i) is p (forms-on rows k start i is f) a y m h)
    where
      by : (b : Bool) → nat_lt a (end_of start i) ≡ b → (end_of start i ≤ a → y.interface.0 < k + 1 + length is) → y.interface.0 < k + length (i ∷ is)
      by true e later =
          let m : a < end_of start i = grind (arith, nat_tests) in
          omega (arith, is-own rows k start i (locals-in rows k start i is f) a y l m h)
      by false e later =
          let m : end_of start i ≤ a = grind (arith, nat_tests) in
          omega (arith, later m)

-- ---- a package

module _ (r : Resolve) (form : IsInPackageForm r) (distinct : All AreDistinct (interfaces_scopes r.definitions 0 r.interfaces)) (one : HasOneOfEachInterface r) where
  abbrev ns : List (List ℕ)
  ns = interface_names r

  none-behind : NoneFrom r.definitions (interfaces_end 0 r.interfaces)
  none-behind = none-named r.definitions 0 (interfaces_end 0 r.interfaces) r.worlds (worlds-parted r.definitions 0 r.interfaces r.worlds form.parted) form.worlds

  in-names : (a : ℕ) (y : TypeName) → IsNamedAt r.definitions a y → y.interface.0 < length r.interfaces
  in-names a y h = omega (arith, in-range r.definitions 0 0 r.interfaces none-behind form.interfaces a y (omega arith) h)

  one-key : (a b : ℕ) (m n : TypeName) → IsNamedAt r.definitions a m → IsNamedAt r.definitions b n → is_same_key (key_of ns m) (key_of ns n) ≡ true → a ≡ b
  one-key a b m n x y h =
      let s = same-key (key_of ns m) (key_of ns n) h in
      let at = one.each m.interface.0 n.interface.0 (in-names a m x) (in-names b n y) s.0 in
      let same : m ≡ n = rw (at, s.1) refl in
      unique r.definitions 0 0 r.interfaces none-behind form.interfaces distinct a b n (omega arith) (omega arith) (subst (IsNamedAt r.definitions a) same x) y

  new-key : (pre : List Definition) (k : TypeDefKind) (n : TypeName) (ds : List Definition) → r.definitions ≡ pre ++ named n k ∷ ds → is_known (row_keys ns pre) (key_of ns n) ≡ false
  new-key pre k n ds e = by (is_known (row_keys ns pre) (key_of ns n)) refl
    where
      here : IsNamedAt r.definitions (length pre) n
      here = (k, ap (λ (xs : List Definition). slice_get xs (length pre)) e ∙ at-seam pre)
        where
          at-seam : (xs : List Definition) → slice_get (xs ++ named n k ∷ ds) (length xs) ≡ Some (named n k)
          at-seam [] = refl
          at-seam (x ∷ xs) = at-seam xs

      by : (b : Bool) → is_known (row_keys ns pre) (key_of ns n) ≡ b → b ≡ false
      by false q = refl
      by true q =
          let s = stands-as ns pre (key_of ns n) q in
          let there : IsNamedAt r.definitions s.0 s.1 = (s.3.0, ap (λ (xs : List Definition). slice_get xs s.0) e ∙ get-front pre (named n k ∷ ds) s.0 s.2 ∙ s.3.1) in
          absurd (omega (arith, s.2, one-key s.0 (length pre) s.1 n there here s.4))

  apart : (pre ds : List Definition) → r.definitions ≡ pre ++ ds → HasDistinctTypes ns ds (row_keys ns pre)
  unfolding named
  apart pre [] e = tt
  apart pre (row.Function f ∷ ds) e =
      subst (HasDistinctTypes ns ds) (keys-end ns pre (row.Function f) ∙ append-nil (row_keys ns pre))
      (apart (pre ++ row.Function f ∷ []) ds (e ∙ sym (append_assoc pre (row.Function f ∷ []) ds)))
  apart pre (row.Type d ∷ ds) e = by d.name d.kind e (apart (pre ++ row.Type d ∷ []) ds (e ∙ sym (append_assoc pre (row.Type d ∷ []) ds)))
    where
      by : (o : Option TypeName) (k : TypeDefKind) → r.definitions ≡ pre ++ row.Type (record { name = o; kind = k }) ∷ ds
          → HasDistinctTypes ns ds (row_keys ns (pre ++ row.Type (record { name = o; kind = k }) ∷ [])) → IsDistinctName ns (row_keys ns pre) o (HasDistinctTypes ns ds)
      by None k q rest = subst (HasDistinctTypes ns ds) (keys-end ns pre (row.Type (record { name = None; kind = k })) ∙ append-nil (row_keys ns pre)) rest
      by (Some n) k q rest =
          (new-key pre k n ds q, subst (HasDistinctTypes ns ds) (keys-end ns pre (row.Type (record { name = Some n; kind = k }))) rest)

pub types-apart : (r : Resolve) → HasOneOfEachInterface r → NamesTypesApart r
types-apart r one form distinct = apart r form (interfaces-distinct r distinct) one [] r.definitions refl
