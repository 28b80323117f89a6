-- Imports that are looked for by their package and their name.
use Rattle.std.proofs.Common.{◌≡◌, ℕ, zero, suc, ◌+◌, ◌<◌, Bool, true, false, cond, ◌&&◌, List, [], ◌∷◌, ◌++◌, Option, None, Some, length, get_or, refl, ap, sym, ◌∙◌, subst, arith, Contains}
use Rattle.std.specs.Option.{option_map}
use Rattle.std.specs.Str.{bytes_eq}
use Rattle.std.proofs.lemmas.List.{get_or-map, get_or_default, get_or-append-add}
use Rattle.std.proofs.lemmas.Option.{slice_get-get_or}
use Rattle.std.proofs.lemmas.Slice.Eq.{bytes_eq-Decides}
use Rattle.tables.specs.PackageNames.{PackageParts, own_name}
use Rattle.tables.specs.Names.{full_name, full_name_in}
use Rattle.tables.specs.Package.{interface_names}
use Rattle.tables.specs.declared.tables.Definition.{Definition}
use Rattle.tables.specs.declared.tables.Interface.{Interface}
use Rattle.tables.specs.declared.tables.Resolve.{Resolve}
use Rattle.tables.proofs.NamesEarlierTypes.{grouped-at}
use Rattle.tables.proofs.ClosedTypesRowByRow.{split, both}
use Rattle.package_form.specs.Closed.{is_same_package}
use Rattle.package_form.proofs.FullNamesStandForInterfaces.{package-is, same-itself}
use Rattle.tree_meaning.specs.Imports.{Import, Imports, AreApart, HasImport, nameless, no_import, import_at, import_place, import_of, imports_from, interfaces_of}

pub get_or-append-right : {A : Type 0} (xs ys : List A) (d : A) (n k : ℕ) → n ≡ length xs → get_or (xs ++ ys) (n + k) d ≡ get_or ys k d
get_or-append-right xs ys d n k e = ap (λ (m : ℕ). get_or (xs ++ ys) (m + k) d) e ∙ get_or-append-add xs ys k d

pub imports-length : (ps : List PackageParts) (rows : List Definition) (k : ℕ) (is : List Interface) → length (imports_from ps rows k is) ≡ length is
imports-length ps rows k [] = refl
imports-length ps rows k (i ∷ is) = ap suc (imports-length ps rows (k + 1) is)

pub imports-at : (ps : List PackageParts) (rows : List Definition) (k : ℕ) (is : List Interface) (j : ℕ) (d : Import) (e : Interface) → j < length is
    → get_or (imports_from ps rows k is) j d ≡ import_of ps rows (k + j) (get_or is j e)
imports-at ps rows k [] j d e l = absurd (omega (arith, l))
imports-at ps rows k (i ∷ is) zero d e l = let z : k ≡ k + 0 = omega arith in ap (λ (n : ℕ). import_of ps rows n i) z
imports-at ps rows k (i ∷ is) (suc j) d e l =
    let z : k + 1 + j ≡ k + suc j = omega arith in
    imports-at ps rows (k + 1) is j d e (omega (arith, l)) ∙ ap (λ (n : ℕ). import_of ps rows n (get_or is j e)) z

-- ---- the place of an import

abbrev pub is_named : PackageParts → List ℕ → Import → Bool
is_named q i k = bytes_eq k.name i && is_same_package k.«package» q

pub named-so : (q : PackageParts) (i : List ℕ) (k : Import) → is_named q i k ≡ true → (k.«package» ≡ q) × (k.name ≡ i)
named-so q i k h =
    let s = split (bytes_eq k.name i) (is_same_package k.«package» q) h in
    (package-is k.«package» q s.1, (bytes_eq-Decides k.name i).0 s.0)

pub so-named : (q : PackageParts) (i : List ℕ) (k : Import) → k.«package» ≡ q → k.name ≡ i → is_named q i k ≡ true
so-named q i k e f =
    both (bytes_eq k.name i) (is_same_package k.«package» q) ((bytes_eq-Decides k.name i).1 f)
    (ap (λ (p : PackageParts). is_same_package p q) e ∙ same-itself q)

pub at-itself : (ks : List Import) (k : ℕ) → k < length ks → Contains ks (import_at ks k)
at-itself ks k l = (k, l, get_or_default ks k (import_at ks k) no_import l)

-- the import at the place that is found
pub record IsFound (ks : List Import) (q : PackageParts) (i : List ℕ) (place : ℕ) : Type 0 where
  pub below : place < length ks
  pub of : (import_at ks place).«package» ≡ q
  pub named : (import_at ks place).name ≡ i

pub place-is : (ks : List Import) (q : PackageParts) (i : List ℕ) (place : ℕ) → import_place ks q i ≡ Some place → IsFound ks q i place
place-is [] q i place e = absurd (cc)
place-is (k ∷ ks) q i place e = by (is_named q i k) refl e (λ n f. place-is ks q i n f)
  where
    after : (o : Option ℕ) → import_place ks q i ≡ o → option_map suc o ≡ Some place → ((n : ℕ) → import_place ks q i ≡ Some n → IsFound ks q i n) → IsFound (k ∷ ks) q i place
    after None f g rest = absurd (cc)
    after (Some n) f g rest =
        let h = rest n f in
        let s : suc n ≡ place = cc in
        subst (IsFound (k ∷ ks) q i) s (record { below = omega (arith, h.below); of = h.of; named = h.named })

    by : (b : Bool) → is_named q i k ≡ b → cond b (Some 0) (option_map suc (import_place ks q i)) ≡ Some place → ((n : ℕ) → import_place ks q i ≡ Some n → IsFound ks q i n) → IsFound (k ∷ ks) q i place
    by true f g rest =
        let s = named-so q i k f in
        let z : 0 ≡ place = cc in
        subst (IsFound (k ∷ ks) q i) z (record { below = omega arith; of = s.0; named = s.1 })
    by false f g rest = after (import_place ks q i) refl g rest

pub place-some : (ks : List Import) (q : PackageParts) (i : List ℕ) (k : Import) → Contains ks k → k.«package» ≡ q → k.name ≡ i → (place : ℕ) × (import_place ks q i ≡ Some place)
place-some [] q i k c e f = absurd (omega (arith, c.1))
place-some (x ∷ ks) q i k c e f = by (is_named q i x) refl c (λ d. place-some ks q i k d e f)
  where
    by : (b : Bool) → is_named q i x ≡ b → Contains (x ∷ ks) k → (Contains ks k → (place : ℕ) × (import_place ks q i ≡ Some place)) → (place : ℕ) × (cond b (Some 0) (option_map suc (import_place ks q i)) ≡ Some place)
    by true g d rest = (0, refl)
    by false g (zero, l, is) rest = let t = so-named q i x (ap (λ (y : Import). y.«package») is ∙ e) (ap (λ (y : Import). y.name) is ∙ f) in absurd (cc)
    by false g (suc n, l, is) rest =
        let r = rest (n, omega (arith, l), is) in
        (suc r.0, ap (λ (o : Option ℕ). option_map suc o) r.1)

pub place-none : (m : Imports) (q : PackageParts) (i : List ℕ) → import_place m.interfaces q i ≡ None → ¬ HasImport m q i
place-none m q i e h = let r = place-some m.interfaces q i h.0 h.1 h.2 h.3 in absurd (cc (e, r.1))

pub place-there : (m : Imports) (q : PackageParts) (i : List ℕ) (place : ℕ) → import_place m.interfaces q i ≡ Some place → HasImport m q i
place-there m q i place e =
    let f = place-is m.interfaces q i place e in
    (import_at m.interfaces place, at-itself m.interfaces place f.below, f.of, f.named)

-- .. is the only one of its name
pub only-import : (ks : List Import) → AreApart ks → (q : PackageParts) (i : List ℕ) (place : ℕ) → IsFound ks q i place → (k : Import) → Contains ks k → k.«package» ≡ q → k.name ≡ i → k ≡ import_at ks place
only-import ks apart q i place f k c e g =
    let here : import_at ks c.0 ≡ k = get_or_default ks c.0 no_import k c.1 ∙ c.2 in
    let same = apart.each c.0 place c.1 f.below (ap (λ (x : Import). x.«package») here ∙ e ∙ sym f.of) (ap (λ (x : Import). x.name) here ∙ g ∙ sym f.named) in
    sym here ∙ ap (import_at ks) same

-- ---- its full name

abbrev pub nowhere : Interface
nowhere = record { «package» = record { 0 = 0 }; name = []; uses = []; types = []; functions = [] }

pub import-named : (r : Resolve) (place : ℕ) → place < length r.interfaces → (q : PackageParts) (i : List ℕ) → IsFound (interfaces_of r) q i place → get_or (interface_names r) place [] ≡ own_name q i
import-named r place l q i f =
    let x = get_or r.interfaces place nowhere in
    let at = imports-at r.packages r.definitions 0 r.interfaces place no_import nowhere l in
    let inside : x.«package».0 < length r.packages = grouped-at (length r.packages) 0 r.interfaces place x r.grouped l (get_or_default r.interfaces place x nowhere l) in
    let of : get_or r.packages x.«package».0 nameless ≡ q = ap (λ (k : Import). k.«package») (sym at) ∙ f.of in
    let named : x.name ≡ i = ap (λ (k : Import). k.name) (sym at) ∙ f.named in
    get_or-map (full_name r) r.interfaces place nowhere [] l
    ∙ ap (λ (o : Option PackageParts). full_name_in o x.name) (slice_get-get_or r.packages x.«package».0 nameless inside ∙ ap (λ (p : PackageParts). Some p) of)
    ∙ ap (own_name q) named

pub import-within : (r : Resolve) (k : ℕ) (x : Interface) → k < length r.interfaces → x ≡ get_or r.interfaces k x → x.«package».0 < length r.packages
import-within r k x l e = grouped-at (length r.packages) 0 r.interfaces k x r.grouped l (sym e)
