-- What the own part of a closed table names of a set, as tests tell it.
use Rattle.std.proofs.Common.{◌≡◌, ◌≢◌, ◌⊎◌, inl, inr, ◌↔◌, ◌<◌, ◌≤◌, ◌+◌, ◌-◌, ◌&&◌, ◌||◌, ◌==◌, ℕ, zero, suc, Bool, true, false, List, [], ◌∷◌, length, take, get_or, slice_get, Option, None, Some, refl, ap, sym, subst, ◌∙◌, arith, Contains, replicate}
use Rattle.std.specs.Prelude.{Decides}
use Rattle.std.proofs.lemmas.List.Folds.{Any-from_list_any, list_any-from_Any}
use Rattle.std.proofs.lemmas.List.{get_or_default, get_or-replicate, length-replicate, length-take}
use Rattle.std.proofs.lemmas.Option.{slice_get_within}
use Rattle.std.specs.Str.{bytes_eq}
use Rattle.std.proofs.lemmas.Slice.Eq.{bytes_eq-Decides}
use Rattle.std.proofs.lemmas.Bool.{cases_lt, eq-eqb, eqb-true}
use Rattle.canonical_abi.proofs.Traces.TracesLeaveImages.{slice_get-take}
use Rattle.package_form.specs.Closed.{own_package}
use Rattle.package_form.specs.Marks.{AreMarked}
use Rattle.package_form.specs.Reached.{is_among, is_interface_of}
use Rattle.package_form.proofs.FullNamesStandForInterfaces.{package-is, same-itself}
use Rattle.package_sets.proofs.AttachedSets.OwnPartStandsBehind.{import-other, own-behind}
use Rattle.package_sets.proofs.KeptParts.PropertiesOfKept.{interface-in}
use Rattle.package_sets.proofs.AttachedAndImportedAreOne.{imports-one}
use Rattle.package_sets.proofs.SamePackagesAreOne.{same-tables}
use Rattle.package_sets.specs.Imports.{IsImportsOf}
use Rattle.package_sets.specs.Joining.{are_same_packages, import_count, imports}
use Rattle.tables.proofs.ClosedTypesRowByRow.{split, both}
use Rattle.tables.specs.PackageNames.{PackageParts}
use Rattle.tables.specs.declared.tables.Interface.{Interface}
use Rattle.tables.specs.declared.tables.Resolve.{Resolve}
use Rattle.package_sets.specs.NamedIn.{own_reached, NamesIn, AreNamedIn}
use Rattle.package_adding.specs.ImportNames.{import_names, any_marked, marked_names}
use Rattle.package_sets.specs.BehindImports.{HasImportTable, IsBehindImports}
use Rattle.package_adding.proofs.MarksOfNamesAreOne.{one-marks}

-- ---- marks

pub none-marked : (n : ℕ) → AreMarked n [] (replicate n false)
none-marked n = record { counted = length-replicate n false; each = λ k l. get_or-replicate n k false false l }

-- one with a mark has the property
pub record HasMarked {A : Type 0} (has : A → Bool) (bs : List Bool) (xs : List A) : Type 0 where
  pub place : ℕ
  pub one : A
  pub at : slice_get xs place ≡ Some one
  pub marked : get_or bs place false ≡ true
  pub holds : has one ≡ true

pub any-has : {A : Type 0} (has : A → Bool) (bs : List Bool) (xs : List A) → any_marked has bs xs ≡ true → HasMarked has bs xs
any-has has bs [] h = absurd (cc)
any-has has [] (x ∷ xs) h = absurd (cc)
any-has has (b ∷ bs) (x ∷ xs) h = by b (has x) refl refl h (any-has has bs xs)
  where
    later : HasMarked has bs xs → HasMarked has (b ∷ bs) (x ∷ xs)
    later m = record { place = suc m.place; one = m.one; at = m.at; marked = m.marked; holds = m.holds }

    by : (c d : Bool) → b ≡ c → has x ≡ d → ((c && d) || any_marked has bs xs) ≡ true → (any_marked has bs xs ≡ true → HasMarked has bs xs) → HasMarked has (b ∷ bs) (x ∷ xs)
    by true true e f g rest = record { place = 0; one = x; at = refl; marked = e; holds = f }
    by true false e f g rest = later (rest g)
    by false d e f g rest = later (rest g)

pub has-any : {A : Type 0} (has : A → Bool) (bs : List Bool) (xs : List A) (k : ℕ) (x : A) → slice_get xs k ≡ Some x → get_or bs k false ≡ true → has x ≡ true → any_marked has bs xs ≡ true
has-any has bs [] k x e m h = absurd (cc)
has-any has [] (y ∷ xs) k x e m h = absurd (cc)
has-any has (b ∷ bs) (y ∷ xs) zero x e m h =
    let same : y ≡ x = cc in
    ap (λ (c : Bool). (c && has y) || any_marked has bs xs) m ∙ ap (λ (z : Bool). z || any_marked has bs xs) (ap has same ∙ h)
has-any has (b ∷ bs) (y ∷ xs) (suc k) x e m h = ap (λ (c : Bool). (b && has y) || c) (has-any has bs xs k x e m h) ∙ or-true (b && has y)
  where
    or-true : (c : Bool) → (c || true) ≡ true
    or-true true = refl
    or-true false = refl

-- the property, by one element more
pub any-more : {A : Type 0} (has : A → Bool) (bs : List Bool) (xs : List A) (k : ℕ) (x : A) → k < length xs → x ≡ get_or xs k x → any_marked has bs (take (k + 1) xs) ≡ (any_marked has bs (take k xs) || (get_or bs k false && has x))
any-more {A} has bs xs k x l e = let one : k + 1 ≡ suc k = omega arith in ap (λ (n : ℕ). any_marked has bs (take n xs)) one ∙ by bs xs k l e
  where
    or-assoc : (a b c : Bool) → (a || (b || c)) ≡ ((a || b) || c)
    or-assoc true b c = refl
    or-assoc false b c = refl

    or-false : (b : Bool) → (b || false) ≡ b
    or-false true = refl
    or-false false = refl

    by : (bs : List Bool) (xs : List A) (k : ℕ) → k < length xs → x ≡ get_or xs k x → any_marked has bs (take (suc k) xs) ≡ (any_marked has bs (take k xs) || (get_or bs k false && has x))
    by bs [] k l e = absurd (omega (arith, l))
    by [] (y ∷ xs) zero l e = refl
    by [] (y ∷ xs) (suc k) l e = refl
    by (b ∷ bs) (y ∷ xs) zero l e = or-false (b && has y) ∙ ap (λ (z : A). b && has z) (sym e)
    by (b ∷ bs) (y ∷ xs) (suc k) l e = ap (λ (c : Bool). (b && has y) || c) (by bs xs k (omega (arith, l)) e) ∙ or-assoc (b && has y) (any_marked has bs (take k xs)) (get_or bs k false && has x)

-- ---- what is among the places that are reached

among-reached : (places : List ℕ) (k : ℕ) → is_among places k ≡ true → Contains places k
among-reached places k h =
    let a = Any-from_list_any (λ n. n == k) places h in
    (a.0, a.2, get_or_default places a.0 k a.1 a.2 ∙ a.3 ∙ eqb-true a.1 k a.4)

reached-among : (places : List ℕ) (k : ℕ) → Contains places k → is_among places k ≡ true
reached-among places k c = list_any-from_Any (λ n. n == k) places (c.0, k, c.1, c.2, eq-eqb k k refl)

same-is : (q : PackageParts) (o : Option PackageParts) → are_same_packages (Some q) o ≡ true → o ≡ Some q
same-is q None h = absurd (cc)
same-is q (Some p) h = ap Some (sym (package-is q p h))

module _ (closed : Resolve) (reached : List Bool) (m : AreMarked (length closed.interfaces) (own_reached closed) reached) where
  -- an import stands among the interfaces, and is of an earlier package than the own one
  at-import : (k : ℕ) (x : Interface) → slice_get (imports closed) k ≡ Some x → (slice_get closed.interfaces k ≡ Some x) × (x.«package».0 < own_package closed.packages)
  at-import k x e =
      let count = import_count closed in
      let l : k < count = omega (arith, slice_get_within (imports closed) k x e, length-take count closed.interfaces) in
      let at = sym (slice_get-take count closed.interfaces k l) ∙ e in
      (at, by (is_interface_of (own_package closed.packages) x) refl (import-other (own_package closed.packages) closed.interfaces k x l at) (interface-in closed k x at))
    where
      by : (b : Bool) → is_interface_of (own_package closed.packages) x ≡ b → is_interface_of (own_package closed.packages) x ≡ false → x.«package».0 < length closed.packages → x.«package».0 < own_package closed.packages
      by true e f l = absurd (cc)
      by false e f l = let not : x.«package».0 ≢ own_package closed.packages = λ q. let same = eq-eqb x.«package».0 (own_package closed.packages) q in absurd (cc) in omega arith

  -- .. and one of an earlier package is an import
  import-at : (k : ℕ) (x : Interface) → slice_get closed.interfaces k ≡ Some x → x.«package».0 < own_package closed.packages → slice_get (imports closed) k ≡ Some x
  import-at k x e l = by (cases_lt k count)
    where
      count : ℕ
      count = import_count closed

      by : (k < count) ⊎ (count ≤ k) → slice_get (imports closed) k ≡ Some x
      by (inl m) = slice_get-take count closed.interfaces k m ∙ e
      by (inr m) =
          let place : count + (k - count) ≡ k = omega arith in
          let own = own-behind (length closed.packages) 0 closed.interfaces closed.grouped (k - count) x (ap (slice_get closed.interfaces) place ∙ e) in
          absurd (omega arith)

  -- an import with a mark that the test finds is named, and what is named is found
  pub imports-tell : (q : PackageParts) (i : List ℕ) → (marked_names closed reached (imports closed) q i ≡ true) ↔ NamesIn closed q i
  imports-tell q i = (there, back)
    where
      there : marked_names closed reached (imports closed) q i ≡ true → NamesIn closed q i
      there t =
          let h = any-has (λ x. import_names closed x q i) reached (imports closed) t in
          let x = h.one in
          let e = at-import h.place x h.at in
          let s = split (are_same_packages (Some q) (slice_get closed.packages x.«package».0)) (bytes_eq i x.name) h.holds in
          let c : Contains (own_reached closed) h.place =
          among-reached (own_reached closed) h.place (sym (m.each h.place (slice_get_within closed.interfaces h.place x e.0)) ∙ h.marked) in
          (h.place, c, record { interface = x; at = e.0; of = same-is q (slice_get closed.packages x.«package».0) s.0; other = e.1; named = sym ((bytes_eq-Decides i x.name).0 s.1) })

      back : NamesIn closed q i → marked_names closed reached (imports closed) q i ≡ true
      back (k, c, x) =
          let same = ap (are_same_packages (Some q)) x.of ∙ same-itself q in
          has-any (λ y. import_names closed y q i) reached (imports closed) k x.interface (import-at k x.interface x.at x.other)
          (m.each k (slice_get_within closed.interfaces k x.interface x.at) ∙ reached-among (own_reached closed) k c)
          (both (are_same_packages (Some q) (slice_get closed.packages x.interface.«package».0)) _ same ((bytes_eq-Decides i x.interface.name).1 (sym x.named)))

-- ---- there is one table of imports

pub decides-behind : (set closed table : Resolve) (packages interfaces : List Bool) → AreNamedIn closed set packages interfaces → IsImportsOf set packages interfaces table
    → (b : Bool) → Decides b (HasImportTable closed table) → Decides b (IsBehindImports set closed)
decides-behind set closed table packages interfaces named are b d = (
  λ e. record { packages = packages; interfaces = interfaces; named = named; imports = table; are = are; stands = d.0 e },
  λ h. d.1 (begins h),
)
  where
    begins : IsBehindImports set closed → HasImportTable closed table
    begins h =
        let one = one-marks (NamesIn closed) set h.packages h.interfaces packages interfaces h.named named in
        let theirs = subst (λ (bs : List Bool). IsImportsOf set bs interfaces h.imports) one.0 (subst (λ (bs : List Bool). IsImportsOf set h.packages bs h.imports) one.1 h.are) in
        subst (HasImportTable closed) (same-tables h.imports table (imports-one set packages interfaces h.imports table theirs are)) h.stands
