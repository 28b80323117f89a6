-- Imports that differ in their names, as a test finds it.
use Rattle.std.proofs.Common.{◌≡◌, ◌<◌, ◌==◌, ℕ, false, Option, None, Some, length, get_or, refl, ap, sym, ◌∙◌, arith}
use Rattle.std.specs.Bool.{Decides}
use Rattle.std.proofs.lemmas.Bool.{eqb-true}
use Rattle.std.proofs.lemmas.Bool.Decides.{Decides-eqb}
use Rattle.std.proofs.lemmas.Option.{same_Some}
use Rattle.tables.specs.PackageNames.{PackageParts}
use Rattle.tables.specs.declared.tables.Interface.{Interface}
use Rattle.tables.specs.declared.tables.Resolve.{Resolve}
use Rattle.package_names.specs.Indexed.{interface_place}
use Rattle.tree_meaning.specs.Imports.{AreApart, Import, nameless, no_import, import_at, import_place, interfaces_of}
use Rattle.tree_meaning.proofs.ImportsFoundByName.{at-itself, imports-at, imports-length, place-is, place-some}
use Rattle.tree_scopes.proofs.ImportPlaces.{place-same}
use Rattle.tree_scopes.specs.Tested.{IsFirstOfName}

counted : (r : Resolve) → length (interfaces_of r) ≡ length r.interfaces
counted r = imports-length r.packages r.definitions 0 r.interfaces

pub all-first : (r : Resolve) → ((k : ℕ) → k < length r.interfaces → IsFirstOfName r k) → AreApart (interfaces_of r)
all-first r h = record {
  each = λ j k l m e f.
      let ks = interfaces_of r in
      same_Some j k
      (sym (h j (omega (arith, l, counted r))) ∙ ap (λ (q : PackageParts). import_place ks q (import_at ks j).name) e ∙ ap (import_place ks (import_at ks k).«package») f
      ∙ h k (omega (arith, m, counted r)));
}

pub first-at : (r : Resolve) → AreApart (interfaces_of r) → (k : ℕ) → k < length r.interfaces → IsFirstOfName r k
first-at r apart k l =
    let ks = interfaces_of r in
    let x = import_at ks k in
    let here : k < length ks = omega (arith, l, counted r) in
    let p = place-some ks x.«package» x.name x (at-itself ks k here) refl refl in
    let f = place-is ks x.«package» x.name p.0 p.1 in
    p.1 ∙ ap (λ (n : ℕ). Some n) (apart.each p.0 k f.below here f.of f.named)

-- as the table's index is asked
pub asked : (r : Resolve) (k : ℕ) (i : Interface) (q : PackageParts) → k < length r.interfaces → i ≡ get_or r.interfaces k i → q ≡ get_or r.packages i.«package».0 nameless
    → interface_place r q i.name ≡ import_place (interfaces_of r) (import_at (interfaces_of r) k).«package» (import_at (interfaces_of r) k).name
asked r k i q l is e =
    let ks = interfaces_of r in
    let at = imports-at r.packages r.definitions 0 r.interfaces k no_import i l in
    let of : q ≡ (import_at ks k).«package» = e ∙ ap (λ (x : Interface). get_or r.packages x.«package».0 nameless) is ∙ sym (ap (λ (x : Import). x.«package») at) in
    let named : i.name ≡ (import_at ks k).name = ap (λ (x : Interface). x.name) is ∙ sym (ap (λ (x : Import). x.name) at) in
    place-same r q i.name ∙ ap (λ (p : PackageParts). import_place ks p i.name) of ∙ ap (import_place ks (import_at ks k).«package») named

pub some-decides : (o : Option ℕ) (a b : ℕ) → o ≡ Some a → Decides (a == b) (o ≡ Some b)
some-decides o a b e = ((λ q. e ∙ ap (λ (n : ℕ). Some n) (eqb-true a b q)), λ p. (Decides-eqb a b).1 (same_Some a b (sym e ∙ p)))

pub none-decides : (o : Option ℕ) (b : ℕ) → o ≡ None → Decides false (o ≡ Some b)
none-decides o b e = ((λ q. absurd (cc (q))), λ p. absurd (cc (e, p)))
