-- Closed tables: each package's name stands for it, and full names for interfaces.
use Rattle.std.proofs.Common.{◌≡◌, inl, inr, ℕ, zero, suc, ◌+◌, ◌<◌, Bool, true, false, cond, not, ◌&&◌, ◌||◌, ◌==◌, nat_le, nat_lt, IsTrue, List, [], ◌∷◌, ◌++◌, length, get_or, slice_get, Option, None, Some, refl, ap, sym, subst, ◌∙◌, arith, All, Contains, append-nil}
use Rattle.std.specs.List.{list_all, list_any}
use Rattle.std.specs.Str.{bytes_eq}
use Rattle.std.proofs.lemmas.Bool.{ltb-true, le-leb, eq-eqb, eqb-true}
use Rattle.std.proofs.lemmas.Bool.Decides.{nat_tests}
use Rattle.std.proofs.lemmas.List.{get_or-map, get_or_default}
use Rattle.std.proofs.lemmas.Slice.Eq.{bytes_eq-Decides}
use Rattle.atoms.specs.Label.{is_label}
use Rattle.atoms.specs.FullName.{Lacks, is_package_label, is_version_or_none, version_suffix, full_name_text}
use Rattle.atoms.proofs.FullNamesHaveOneReading.{label_lacks, package_lacks, has_mark, cut_once}
use Rattle.tables.specs.PackageNames.{PackageParts, name_parts}
use Rattle.tables.specs.Tables.{are_grouped, are_worlds_grouped}
use Rattle.tables.specs.Names.{full_name_in, full_name}
use Rattle.tables.specs.Package.{interface_names, worlds}
use Rattle.tables.specs.declared.tables.Interface.{Interface}
use Rattle.tables.specs.declared.tables.World.{World}
use Rattle.tables.specs.declared.tables.Resolve.{Resolve}
use Rattle.tables.proofs.NamesEarlierTypes.{grouped-at}
use Rattle.tables.proofs.ClosedTypesRowByRow.{split, both}
use Rattle.package_form.specs.Scope.{AreDistinct}
use Rattle.package_form.specs.Reached.{is_interface_of, is_among, reached, are_reached}
use Rattle.package_form.specs.Closed.{own_package, is_world_of, has_own, is_same_version, is_same_package, are_apart, are_of_a_set, has_each_package, is_closed, IsAlone}
use Rattle.package_form.specs.Form.{is_package_name, has_full_names}
use Rattle.package_form.specs.Naming.{interface_label_of, interface_labels_of, package_scopes}
use Rattle.package_form.proofs.AllAndContains.{all-get, compared, contains-here}
use Rattle.package_form.proofs.InterfacesOfOnePackage.{single, one-full-name, is_first, all-first, first-place, own-full-name}
use Rattle.package_form.proofs.NamesStandForOneRow.{twice-of}
use Rattle.package_form.proofs.ScopesAreDistinct.{names-distinct}

-- ---- places of packages

pub world-at : (count first : ℕ) (ws : List World) (k : ℕ) (w : World) → IsTrue (are_worlds_grouped count first ws) → k < length ws → get_or ws k w ≡ w → w.«package».0 < count
world-at count first [] k w h l e = absurd (omega (arith, l))
world-at count first (v ∷ ws) zero w h l e =
    let here = split (nat_le first v.«package».0) (nat_lt v.«package».0 count) (split (nat_le first v.«package».0 && nat_lt v.«package».0 count) _ h).0 in
    subst (λ (x : World). x.«package».0 < count) e (ltb-true v.«package».0 count here.1)
world-at count first (v ∷ ws) (suc k) w h l e =
    world-at count v.«package».0 ws k w (split (nat_le first v.«package».0 && nat_lt v.«package».0 count) _ h).1 (omega (arith, l)) e

pub package-there : (ps : List PackageParts) (k : ℕ) → k < length ps → (p : PackageParts) × (slice_get ps k ≡ Some p)
package-there [] k l = absurd (omega (arith, l))
package-there (p ∷ ps) zero l = (p, refl)
package-there (p ∷ ps) (suc k) l = package-there ps k (omega (arith, l))

same-bytes : (s : List ℕ) → bytes_eq s s ≡ true
same-bytes s = (bytes_eq-Decides s s).1 refl

same-version : (v : Option (List ℕ)) → is_same_version v v ≡ true
same-version None = refl
same-version (Some v) = same-bytes v

pub same-itself : (p : PackageParts) → is_same_package p p ≡ true
same-itself p = both (bytes_eq p.namespace p.namespace) _ (same-bytes p.namespace) (both (bytes_eq p.name p.name) _ (same-bytes p.name) (same-version p.version))

version-is : (v w : Option (List ℕ)) → is_same_version v w ≡ true → v ≡ w
version-is None None h = refl
version-is None (Some w) h = absurd (cc)
version-is (Some v) None h = absurd (cc)
version-is (Some v) (Some w) h = ap (λ (t : List ℕ). Some t) ((bytes_eq-Decides v w).0 h)

pub package-is : (p q : PackageParts) → is_same_package p q ≡ true → p ≡ q
package-is p q h =
    let a = split (bytes_eq p.namespace q.namespace) _ h in
    let b = split (bytes_eq p.name q.name) (is_same_version p.version q.version) a.1 in
    let space = (bytes_eq-Decides p.namespace q.namespace).0 a.0 in
    let name = (bytes_eq-Decides p.name q.name).0 b.0 in
    let version = version-is p.version q.version b.1 in
    λ j. record { namespace = space j; name = name j; version = version j }

any-at : {A : Type 0} (f : A → Bool) (xs : List A) (k : ℕ) (x : A) → slice_get xs k ≡ Some x → f x ≡ true → list_any f xs ≡ true
any-at f [] k x e h = absurd (cc)
any-at f (y ∷ xs) zero x e h = let is : y ≡ x = cc in ap (λ (b : Bool). b || list_any f xs) (ap f is ∙ h)
any-at f (y ∷ xs) (suc k) x e h = ap (λ (b : Bool). f y || b) (any-at f xs k x e h) ∙ or-true (f y)
  where
    or-true : (b : Bool) → (b || true) ≡ true
    or-true true = refl
    or-true false = refl

not-is : (b : Bool) → not b ≡ true → b ≡ false
not-is true h = absurd (cc)
not-is false h = refl

-- a name stands for one package
pub apart-places : (ps : List PackageParts) → are_apart ps ≡ true → (k l : ℕ) (p : PackageParts) → slice_get ps k ≡ Some p → slice_get ps l ≡ Some p → k ≡ l
apart-places [] h k l p e f = absurd (cc)
apart-places (q ∷ ps) h zero zero p e f = refl
apart-places (q ∷ ps) h zero (suc l) p e f =
    let is : q ≡ p = cc in
    let none = not-is (list_any (is_same_package q) ps) (split (not (list_any (is_same_package q) ps)) (are_apart ps) h).0 in
    let some = any-at (is_same_package q) ps l p f (ap (is_same_package q) (sym is) ∙ same-itself q) in
    absurd (cc)
apart-places (q ∷ ps) h (suc k) zero p e f =
    let is : q ≡ p = cc in
    let none = not-is (list_any (is_same_package q) ps) (split (not (list_any (is_same_package q) ps)) (are_apart ps) h).0 in
    let some = any-at (is_same_package q) ps k p e (ap (is_same_package q) (sym is) ∙ same-itself q) in
    absurd (cc)
apart-places (q ∷ ps) h (suc k) (suc l) p e f = ap suc (apart-places ps (split (not (list_any (is_same_package q) ps)) (are_apart ps) h).1 k l p e f)

-- ---- what a closed table is

module _ (r : Resolve) (closed : IsTrue (is_closed r)) where
  abbrev own : ℕ
  own = own_package r.packages

  a : (has_own own r.interfaces r.worlds ≡ true) × ((are_of_a_set r.packages && (has_each_package own 0 r.interfaces && (list_all (is_world_of own) r.worlds && are_reached own (reached r.definitions r.worlds) 0 r.interfaces))) ≡ true)
  a = split (has_own own r.interfaces r.worlds) _ closed

  pub own-part : has_own own r.interfaces r.worlds ≡ true
  own-part = a.0

  b : (are_of_a_set r.packages ≡ true) × ((has_each_package own 0 r.interfaces && (list_all (is_world_of own) r.worlds && are_reached own (reached r.definitions r.worlds) 0 r.interfaces)) ≡ true)
  b = split (are_of_a_set r.packages) _ a.1

  pub packages-apart : are_apart r.packages ≡ true
  packages-apart = (split (nat_le (length r.packages) 64) (are_apart r.packages) b.0).1

  c : (has_each_package own 0 r.interfaces ≡ true) × ((list_all (is_world_of own) r.worlds && are_reached own (reached r.definitions r.worlds) 0 r.interfaces) ≡ true)
  c = split (has_each_package own 0 r.interfaces) _ b.1

  pub each-package : has_each_package own 0 r.interfaces ≡ true
  each-package = c.0

  d : (list_all (is_world_of own) r.worlds ≡ true) × (are_reached own (reached r.definitions r.worlds) 0 r.interfaces ≡ true)
  d = split (list_all (is_world_of own) r.worlds) _ c.1

  pub own-worlds : list_all (is_world_of own) r.worlds ≡ true
  own-worlds = d.0

  pub imports-reached : are_reached own (reached r.definitions r.worlds) 0 r.interfaces ≡ true
  imports-reached = d.1

  pub some-part : 0 < length r.interfaces + length r.worlds
  some-part = by r.interfaces r.worlds own-part
    where
      by : (is : List Interface) (ws : List World) → has_own own is ws ≡ true → 0 < length is + length ws
      by [] [] h = absurd (cc)
      by [] (w ∷ ws) h = omega arith
      by (i ∷ is) ws h = omega arith

  pub some-package : 0 < length r.packages
  some-package = by r.interfaces r.worlds some-part r.grouped r.worlds_grouped
    where
      by : (is : List Interface) (ws : List World) → 0 < length is + length ws → IsTrue (are_grouped (length r.packages) 0 is) → IsTrue (are_worlds_grouped (length r.packages) 0 ws) → 0 < length r.packages
      by [] [] some g h = absurd (omega (arith, some))
      by [] (w ∷ ws) some g h = omega (arith, world-at (length r.packages) 0 (w ∷ ws) 0 w h (omega arith) refl)
      by (i ∷ is) ws some g h = omega (arith, grouped-at (length r.packages) 0 (i ∷ is) 0 i g (omega arith) refl)

-- ---- a package that reaches no other

first-worlds : (first : ℕ) (ws : List World) → are_worlds_grouped 1 first ws ≡ true → list_all (is_world_of 0) ws ≡ true
first-worlds first [] h = refl
first-worlds first (w ∷ ws) h =
    let inside = split (nat_le first w.«package».0 && nat_lt w.«package».0 1) _ h in
    let here = ltb-true w.«package».0 1 (split (nat_le first w.«package».0) _ inside.0).1 in
    both (is_world_of 0 w) _ (eq-eqb w.«package».0 0 (omega (arith, here))) (first-worlds w.«package».0 ws inside.1)

pub alone-closed : (r : Resolve) → IsAlone r → 0 < length r.interfaces + length r.worlds → IsTrue (is_closed r)
alone-closed r alone some = subst (λ (n : ℕ). (has_own n r.interfaces r.worlds && (are_of_a_set r.packages && (has_each_package n 0 r.interfaces && (list_all (is_world_of n) r.worlds && are_reached n (reached r.definitions r.worlds) 0 r.interfaces)))) ≡ true)
    none
    (both (has_own 0 r.interfaces r.worlds) _ (owned r.interfaces r.worlds some firsts)
    (both (are_of_a_set r.packages) _ (ap are_of_a_set one.1)
    (both (has_each_package 0 0 r.interfaces) _ (each 0 r.interfaces firsts)
    (both (list_all (is_world_of 0) r.worlds) _ (first-worlds 0 r.worlds (subst (λ (n : ℕ). are_worlds_grouped n 0 r.worlds ≡ true) alone r.worlds_grouped))
    (within 0 r.interfaces firsts)))))
  where
    one : (p : PackageParts) × (r.packages ≡ p ∷ [])
    one = single r.packages alone

    none : 0 ≡ own_package r.packages
    none = omega (arith, alone)

    firsts : list_all is_first r.interfaces ≡ true
    firsts = all-first 0 r.interfaces (subst (λ (n : ℕ). are_grouped n 0 r.interfaces ≡ true) alone r.grouped)

    counted : (ws : List World) → 0 < length ws → (length ws == 0) ≡ false
    counted ws h = grind (arith, nat_tests)

    owned : (is : List Interface) (ws : List World) → 0 < length is + length ws → list_all is_first is ≡ true → has_own 0 is ws ≡ true
    owned [] [] some h = absurd (omega (arith, some))
    owned [] (w ∷ ws) some h = ap (λ (b : Bool). not b || false) (counted (w ∷ ws) (omega arith))
    owned (i ∷ is) (w ∷ ws) some h = ap (λ (b : Bool). not b || list_any (is_interface_of 0) (i ∷ is)) (counted (w ∷ ws) (omega arith))
    owned (i ∷ is) [] some h = ap (λ (b : Bool). b || list_any (is_interface_of 0) is) (split (is_first i) (list_all is_first is) h).0

    each : (n : ℕ) (is : List Interface) → list_all is_first is ≡ true → has_each_package 0 n is ≡ true
    each n [] h = le-leb 0 n (omega arith)
    each n (i ∷ is) h =
        let here = eqb-true i.«package».0 0 (split (is_first i) (list_all is_first is) h).0 in
        both (nat_le i.«package».0 n) _ (le-leb i.«package».0 n (omega (arith, here))) (each (i.«package».0 + 1) is (split (is_first i) (list_all is_first is) h).1)

    within : (k : ℕ) (is : List Interface) → list_all is_first is ≡ true → are_reached 0 (reached r.definitions r.worlds) k is ≡ true
    within k [] h = refl
    within k (i ∷ is) h =
        both (is_interface_of 0 i || is_among (reached r.definitions r.worlds) k) _ (ap (λ (b : Bool). b || is_among (reached r.definitions r.worlds) k) (split (is_first i) (list_all is_first is) h).0)
        (within (k + 1) is (split (is_first i) (list_all is_first is) h).1)

-- ---- full names

-- full names of packages are one where the packages and the names are
pub full-name-parts : (p q : PackageParts) (a b : List ℕ) → is_package_name p ≡ true → is_package_name q ≡ true → is_label a ≡ true → is_label b ≡ true
    → full_name_text (name_parts p a) ≡ full_name_text (name_parts q b) → (p ≡ q) × (a ≡ b)
full-name-parts p q a b hp hq la lb e =
    let x = split (is_package_label p.namespace) (is_package_label p.name && is_version_or_none p.version) hp in
    let y = split (is_package_label q.namespace) (is_package_label q.name && is_version_or_none q.version) hq in
    let xn = split (is_package_label p.name) (is_version_or_none p.version) x.1 in
    let yn = split (is_package_label q.name) (is_version_or_none q.version) y.1 in
    let space = cut_once 58 p.namespace q.namespace _ _ (package_lacks 58 p.namespace refl x.0) (package_lacks 58 q.namespace refl y.0) e in
    let named = cut_once 47 p.name q.name _ _ (package_lacks 47 p.name refl xn.0) (package_lacks 47 q.name refl yn.0) space.1 in
    let last = by p.version q.version named.1 in
    (λ j. record { namespace = space.0 j; name = named.0 j; version = last.1 j }, last.0)
  where
    by : (v w : Option (List ℕ)) → a ++ version_suffix v ≡ b ++ version_suffix w → (a ≡ b) × (v ≡ w)
    by None None h = (sym (append-nil a) ∙ h ∙ append-nil b, refl)
    by None (Some w) h = absurd (has_mark 64 b w (subst (Lacks 64) (sym (append-nil a) ∙ h) (label_lacks 64 a refl la)))
    by (Some v) None h = absurd (has_mark 64 a v (subst (Lacks 64) (sym (append-nil b) ∙ sym h) (label_lacks 64 b refl lb)))
    by (Some v) (Some w) h =
        let c = cut_once 64 a b v w (label_lacks 64 a refl la) (label_lacks 64 b refl lb) h in
        (c.0, ap (λ (t : List ℕ). Some t) c.1)

-- a full name stands for one interface
pub record HasOneOfEachInterface (r : Resolve) : Type 0 where
  pub each : (m n : ℕ) → m < length r.interfaces → n < length r.interfaces → get_or (interface_names r) m [] ≡ get_or (interface_names r) n [] → m ≡ n

nowhere : Interface
nowhere = record { «package» = record { 0 = 0 }; name = []; uses = []; types = []; functions = [] }

module _ (r : Resolve) (distinct : All AreDistinct (package_scopes r)) where
  -- two places of one name in one package are one
  same-place-of : (m n : ℕ) (i j : Interface) → slice_get r.interfaces m ≡ Some i → slice_get r.interfaces n ≡ Some j → i.«package».0 < length r.packages
      → i.«package».0 ≡ j.«package».0 → i.name ≡ j.name → m ≡ n
  same-place-of m n i j e f low same name = elim (compared m n) [
    | inl q ↦ absurd (twice-of (interface_label_of i.«package».0) r.interfaces m n i j i.name q e f here there scope)
    | inr q ↦ elim q [
      | inl l ↦ absurd (twice-of (interface_label_of i.«package».0) r.interfaces n m j i i.name l f e there here scope)
      | inr l ↦ l
    ]
  ]
    where
      scope : AreDistinct (interface_labels_of r.interfaces i.«package».0)
      scope = names-distinct r distinct i.«package».0 low

      here : Contains (interface_label_of i.«package».0 i) i.name
      here = subst (λ (b : Bool). Contains (cond b (i.name ∷ []) []) i.name) (sym (eq-eqb i.«package».0 i.«package».0 refl)) (contains-here i.name [])

      there : Contains (interface_label_of i.«package».0 j) i.name
      there = subst (λ (b : Bool). Contains (cond b (j.name ∷ []) []) i.name) (sym (eq-eqb j.«package».0 i.«package».0 (sym same)))
          (subst (λ (n : List ℕ). Contains (n ∷ []) i.name) name (contains-here i.name []))

  interface-there : (is : List Interface) (m : ℕ) → m < length is → slice_get is m ≡ Some (get_or is m nowhere)
  interface-there [] m l = absurd (omega (arith, l))
  interface-there (i ∷ is) zero l = refl
  interface-there (i ∷ is) (suc m) l = interface-there is m (omega (arith, l))

  one-of-each : ((i j : Interface) → Contains r.interfaces i → Contains r.interfaces j → full_name r i ≡ full_name r j → (i.«package».0 ≡ j.«package».0) × (i.name ≡ j.name))
      → HasOneOfEachInterface r
  one-of-each one = record {
    each = λ m n l k e.
        let i : Interface = get_or r.interfaces m nowhere in
        let j : Interface = get_or r.interfaces n nowhere in
        let ci : Contains r.interfaces i = (m, l, get_or_default r.interfaces m i nowhere l) in
        let cj : Contains r.interfaces j = (n, k, get_or_default r.interfaces n j nowhere k) in
        let full = sym (get_or-map (full_name r) r.interfaces m nowhere [] l) ∙ e ∙ get_or-map (full_name r) r.interfaces n nowhere [] k in
        let s = one i j ci cj full in
        same-place-of m n i j (interface-there r.interfaces m l) (interface-there r.interfaces n k) (grouped-at (length r.packages) 0 r.interfaces m i r.grouped l ci.2) s.0 s.1;
  }

  -- where names are labels
  pub labelled-interfaces : IsTrue (is_closed r) → IsTrue (has_full_names r) → ((i : Interface) → Contains r.interfaces i → is_label i.name ≡ true) → HasOneOfEachInterface r
  labelled-interfaces closed names labels = one-of-each by
    where
      by : (i j : Interface) → Contains r.interfaces i → Contains r.interfaces j → full_name r i ≡ full_name r j → (i.«package».0 ≡ j.«package».0) × (i.name ≡ j.name)
      by i j ci cj e =
          let p = package-there r.packages i.«package».0 (grouped-at (length r.packages) 0 r.interfaces ci.0 i r.grouped ci.1 ci.2) in
          let q = package-there r.packages j.«package».0 (grouped-at (length r.packages) 0 r.interfaces cj.0 j r.grouped cj.1 cj.2) in
          let whole = ap (λ (o : Option PackageParts). full_name_in o i.name) (sym p.1) ∙ e ∙ ap (λ (o : Option PackageParts). full_name_in o j.name) q.1 in
          let parts = full-name-parts p.0 q.0 i.name j.name (all-get is_package_name r.packages i.«package».0 p.0 names p.1) (all-get is_package_name r.packages j.«package».0 q.0 names q.1) (labels i ci) (labels j cj) whole in
          (apart-places r.packages (packages-apart r closed) i.«package».0 j.«package».0 p.0 p.1 (q.1 ∙ ap (λ (x : PackageParts). Some x) (sym parts.0)), parts.1)

  -- where there is one package
  pub alone-interfaces : IsAlone r → HasOneOfEachInterface r
  alone-interfaces alone = one-of-each by
    where
      by : (i j : Interface) → Contains r.interfaces i → Contains r.interfaces j → full_name r i ≡ full_name r j → (i.«package».0 ≡ j.«package».0) × (i.name ≡ j.name)
      by i j ci cj e =
          let one = single r.packages alone in
          let fi = first-place r one.0 one.1 i ci in
          let fj = first-place r one.0 one.1 j cj in
          (omega (arith, fi, fj), one-full-name one.0 i.name j.name (sym (own-full-name r one.0 one.1 i fi) ∙ e ∙ own-full-name r one.0 one.1 j fj))
