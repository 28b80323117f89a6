-- The place of an import, as its table's index tells it.
use Rattle.std.proofs.Common.{◌≡◌, ◌<◌, ℕ, suc, ◌+◌, Bool, true, false, cond, ◌&&◌, List, [], ◌∷◌, Option, Some, length, get_or, refl, ap, sym, ◌∙◌}
use Rattle.std.specs.List.{position}
use Rattle.std.specs.Option.{option_map}
use Rattle.std.specs.Prelude.{nat_le, nat_lt}
use Rattle.std.specs.Str.{bytes_eq}
use Rattle.std.proofs.lemmas.Bool.{ltb-true}
use Rattle.std.proofs.lemmas.Option.{slice_get-get_or}
use Rattle.std.proofs.lemmas.Slice.Eq.{bytes_eq-Decides}
use Rattle.package_form.specs.Closed.{is_same_package}
use Rattle.package_names.specs.Indexed.{is_package_named, is_interface_named, interface_place}
use Rattle.package_form.proofs.FullNamesStandForInterfaces.{package-is, same-itself}
use Rattle.package_form.proofs.PositionOfTheFirst.{position-cons}
use Rattle.tables.specs.PackageNames.{PackageParts}
use Rattle.tables.specs.Tables.{are_grouped}
use Rattle.tables.specs.declared.tables.Definition.{Definition}
use Rattle.tables.specs.declared.tables.Interface.{Interface}
use Rattle.tables.specs.declared.tables.Resolve.{Resolve}
use Rattle.tables.proofs.ClosedTypesRowByRow.{split, both}
use Rattle.tree_meaning.specs.Imports.{import_place, nameless, imports_from, interfaces_of}

same-test : (a b : Bool) → (a ≡ true → b ≡ true) → (b ≡ true → a ≡ true) → a ≡ b
same-test true b f g = sym (f refl)
same-test false true f g = g refl
same-test false false f g = refl

module _ (ps : List PackageParts) (rows : List Definition) (q : PackageParts) (i : List ℕ) where
  named-either : (x : Interface) → x.«package».0 < length ps → is_interface_named ps q i x ≡ (bytes_eq x.name i && is_same_package (get_or ps x.«package».0 nameless) q)
  named-either x l = ap (λ (o : Option PackageParts). is_package_named q o && bytes_eq i x.name) (slice_get-get_or ps x.«package».0 nameless l) ∙ same-test _ _ there back
    where
      there : (is_same_package q (get_or ps x.«package».0 nameless) && bytes_eq i x.name) ≡ true → (bytes_eq x.name i && is_same_package (get_or ps x.«package».0 nameless) q) ≡ true
      there h =
          let s = split (is_same_package q (get_or ps x.«package».0 nameless)) (bytes_eq i x.name) h in
          both (bytes_eq x.name i) _ ((bytes_eq-Decides x.name i).1 (sym ((bytes_eq-Decides i x.name).0 s.1)))
          (ap (λ (r : PackageParts). is_same_package r q) (sym (package-is q (get_or ps x.«package».0 nameless) s.0)) ∙ same-itself q)

      back : (bytes_eq x.name i && is_same_package (get_or ps x.«package».0 nameless) q) ≡ true → (is_same_package q (get_or ps x.«package».0 nameless) && bytes_eq i x.name) ≡ true
      back h =
          let s = split (bytes_eq x.name i) (is_same_package (get_or ps x.«package».0 nameless) q) h in
          both (is_same_package q (get_or ps x.«package».0 nameless)) _ (ap (is_same_package q) (package-is (get_or ps x.«package».0 nameless) q s.1) ∙ same-itself q)
          ((bytes_eq-Decides i x.name).1 (sym ((bytes_eq-Decides x.name i).0 s.0)))

  placed : (k first : ℕ) (is : List Interface) → are_grouped (length ps) first is ≡ true → position (is_interface_named ps q i) is ≡ import_place (imports_from ps rows k is) q i
  placed k first [] h = refl
  placed k first (x ∷ is) h =
      let s = split (nat_le first x.«package».0 && nat_lt x.«package».0 (length ps)) (are_grouped (length ps) x.«package».0 is) h in
      let l = ltb-true x.«package».0 (length ps) (split (nat_le first x.«package».0) (nat_lt x.«package».0 (length ps)) s.0).1 in
      position-cons (is_interface_named ps q i) x is
      ∙ ap (λ (b : Bool). cond b (Some 0) (option_map suc (position (is_interface_named ps q i) is))) (named-either x l)
      ∙ ap (λ (o : Option ℕ). cond (bytes_eq x.name i && is_same_package (get_or ps x.«package».0 nameless) q) (Some 0) (option_map suc o)) (placed (k + 1) x.«package».0 is s.1)

pub place-same : (r : Resolve) (q : PackageParts) (i : List ℕ) → interface_place r q i ≡ import_place (interfaces_of r) q i
place-same r q i = placed r.packages r.definitions q i 0 0 r.interfaces r.grouped
