-- Where names differ, a used name stands for one row: tables alike are the same.
use Rattle.std.proofs.Common.{◌≡◌, ℕ, ◌+◌, List, ◌∷◌, slice_get, Option, None, Some, refl, ap, ◌∙◌, arith, All}
use Rattle.tables.specs.Tables.{type_of}
use Rattle.tables.specs.Same.{IsSamePackage}
use Rattle.tables.specs.declared.tables.TypeId.{TypeId}
use Rattle.tables.specs.declared.tables.TypeDefKind.{TypeDefKind}
use Rattle.tables.specs.declared.tables.TypeDefKind.TheVariants as kind
use Rattle.tables.specs.declared.tables.TypeName.{TypeName}
use Rattle.tables.specs.declared.tables.Definition.{Definition}
use Rattle.tables.specs.declared.tables.Definition.TheVariants as row
use Rattle.tables.specs.declared.tables.Resolve.{Resolve}
use Rattle.package_form.specs.Scope.{AreDistinct}
use Rattle.package_form.specs.Ids.{type_id}
use Rattle.package_form.specs.Ends.{interfaces_end}
use Rattle.package_form.proofs.ScopesAreDistinct.{interfaces-distinct}
use Rattle.package_form.specs.Reached.{name_of, name_at}
use Rattle.package_form.specs.Form.{IsInPackageForm}
use Rattle.package_form.specs.Naming.{package_scopes}
use Rattle.package_form.proofs.NamesStandForOneRow.{named, IsNamedAt, none-named, worlds-parted, unique}
use Rattle.wit_component.proofs.AlikeRows.{IsAlike, same, uses, AreAlike, none, one_more}
use Rattle.wit_component.proofs.AlikeTablesHaveOneComponent.{IsAlikePackage}

pub named-row : (rows : List Definition) (n : ℕ) (y : TypeName) → name_of (type_of (slice_get rows n)) ≡ Some y → IsNamedAt rows n y
unfolding named
named-row rows n y h = by (slice_get rows n) h
  where
    by : (o : Option Definition) → name_of (type_of o) ≡ Some y → (k : TypeDefKind) × (o ≡ Some (named y k))
    by None e = absurd (cc)
    by (Some (row.Function f)) e = absurd (cc)
    by (Some (row.Type d)) e = (d.kind, ap (λ (n : Option TypeName). Some (row.Type (record { name = n; kind = d.kind }))) e)

module _ (rows : List Definition) where
  same-rows : ((t u : TypeId) (y : TypeName) → name_at rows (Some t) ≡ Some y → name_at rows (Some u) ≡ Some y → t ≡ u) → (n : ℕ) (ds es : List Definition) → AreAlike rows n ds es → es ≡ ds
  same-rows one _ _ _ (none n) = refl
  same-rows one _ _ _ (one_more n d e ds es a rest) = ap (λ (x : Definition). x ∷ es) (by d e a) ∙ ap (λ (xs : List Definition). d ∷ xs) (same-rows one (n + 1) ds es rest)
    where
      by : (d e : Definition) → IsAlike rows n d e → e ≡ d
      by _ _ (same d) = refl
      by _ _ (uses x t u y at to below) = ap (λ (z : TypeId). row.Type (record { name = x; kind = kind.Use z })) (one u t y to at)

-- rows alike to those of a package whose names differ are the same
pub same-definitions : (r : Resolve) (rows : List Definition) → AreAlike r.definitions 0 r.definitions rows → IsInPackageForm r → All AreDistinct (package_scopes r)
    → rows ≡ r.definitions
same-definitions r rows a f d =
    let none = none-named r.definitions 0 (interfaces_end 0 r.interfaces) r.worlds (worlds-parted r.definitions 0 r.interfaces r.worlds f.parted) f.worlds in
    let one : (t u : TypeId) (y : TypeName) → name_at r.definitions (Some t) ≡ Some y → name_at r.definitions (Some u) ≡ Some y → t ≡ u =
    λ t u y x z. ap type_id (unique r.definitions 0 0 r.interfaces none f.interfaces (interfaces-distinct r d) t.0 u.0 y (omega arith) (omega arith) (named-row r.definitions t.0 y x) (named-row r.definitions u.0 y z)) in
    same-rows r.definitions one 0 r.definitions rows a

-- so is a package alike to it
pub same-package : (r p : Resolve) → IsAlikePackage r p → IsInPackageForm r → All AreDistinct (package_scopes r) → IsSamePackage p r
same-package r p a f d = record {
  packages = a.packages;
  interfaces = a.interfaces;
  worlds = a.worlds;
  definitions = same-definitions r p.definitions a.definitions f d;
}
