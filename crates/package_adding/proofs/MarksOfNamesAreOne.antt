-- The marks of what is named are one, however it is told.
use Rattle.std.proofs.Common.{◌≡◌, ◌↔◌, ◌<◌, ℕ, Bool, true, false, List, length, get_or, refl, sym, ◌∙◌, arith}
use Rattle.std.proofs.lemmas.List.{get_or_default, same_lists}
use Rattle.package_form.proofs.FullNamesStandForInterfaces.{package-there}
use Rattle.package_sets.proofs.GrowingLists.{one-there}
use Rattle.package_sets.proofs.KeptParts.PropertiesOfKept.{interface-in}
use Rattle.tables.specs.PackageNames.{PackageParts}
use Rattle.tables.specs.declared.tables.Resolve.{Resolve}
use Rattle.package_sets.specs.NamedIn.{AreMarksOf}

-- two tests of one thing
same-test : (P : Type 0) (a b : Bool) → (a ≡ true) ↔ P → (b ≡ true) ↔ P → a ≡ b
same-test P true true f g = refl
same-test P true false f g = let e = g.1 (f.0 refl) in absurd (cc)
same-test P false true f g = let e = f.1 (g.0 refl) in absurd (cc)
same-test P false false f g = refl

same-marked : (P : Type 0) (xs ys : List Bool) (k : ℕ) (d : Bool) → k < length xs → k < length ys → (get_or xs k false ≡ true) ↔ P → (get_or ys k false ≡ true) ↔ P → get_or xs k d ≡ get_or ys k d
same-marked P xs ys k d l m f g = get_or_default xs k d false l ∙ (same-test P (get_or xs k false) (get_or ys k false) f g ∙ get_or_default ys k false d m)

pub one-marks : (names : PackageParts → List ℕ → Type 0) (set : Resolve) (ps is qs js : List Bool) → AreMarksOf names set ps is → AreMarksOf names set qs js → (ps ≡ qs) × (is ≡ js)
one-marks names set ps is qs js a b = (
  same_lists ps qs (a.each_package ∙ sym b.each_package) (λ k d l.
      let q = package-there set.packages k (omega (arith, l, a.each_package)) in
      same-marked ((i : List ℕ) × names q.0 i) ps qs k d l (omega (arith, l, a.each_package, b.each_package)) (a.packages_are k q.0 q.1) (b.packages_are k q.0 q.1)),
  same_lists is js (a.each_interface ∙ sym b.each_interface) (λ k d l.
      let x = one-there set.interfaces k (omega (arith, l, a.each_interface)) in
      let q = package-there set.packages x.0.«package».0 (interface-in set k x.0 x.1) in
      same-marked (names q.0 x.0.name) is js k d l (omega (arith, l, a.each_interface, b.each_interface)) (a.interfaces_are k x.0 q.0 x.1 q.1) (b.interfaces_are k x.0 q.0 x.1 q.1)),
)

module _ (names others : PackageParts → List ℕ → Type 0) (same : (q : PackageParts) (i : List ℕ) → names q i ↔ others q i) (set : Resolve) where
  -- marks of what is named are those of what is named in another way
  pub also-marks : (ps is : List Bool) → AreMarksOf names set ps is → AreMarksOf others set ps is
  also-marks ps is a = record {
    each_package = a.each_package;
    each_interface = a.each_interface;
    packages_are = λ k q e.
        let t = a.packages_are k q e in
        (λ h. let n = t.0 h in (n.0, (same q n.0).0 n.1), λ n. t.1 (n.0, (same q n.0).1 n.1));
    interfaces_are = λ k i q e f.
        let t = a.interfaces_are k i q e f in
        (λ h. (same q i.name).0 (t.0 h), λ n. t.1 ((same q i.name).1 n));
  }

  pub same-marks : (ps is qs js : List Bool) → AreMarksOf names set ps is → AreMarksOf others set qs js → (ps ≡ qs) × (is ≡ js)
  same-marks ps is qs js a b = one-marks others set ps is qs js (also-marks ps is a) b
