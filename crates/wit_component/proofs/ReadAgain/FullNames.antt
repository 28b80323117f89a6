-- The full name of an interface or a world of a package, cut in its parts.
use Rattle.std.proofs.Common.{◌≡◌, IsTrue, true, false, ap, ◌∙◌, slice_get, Option, Some, refl}
use Rattle.atoms.specs.Label.{is_label}
use Rattle.atoms.specs.FullName.{IsFullName, is_package_label}
use Rattle.tables.specs.PackageNames.{PackageParts, name_parts}
use Rattle.tables.specs.Names.{full_name_in, full_name}
use Rattle.tables.specs.declared.tables.Interface.{Interface}
use Rattle.tables.specs.declared.tables.Resolve.{Resolve}
use Rattle.component_reader.specs.Component.{interface_text, package_in_name}
use Rattle.package_form.specs.Form.{is_package_name, has_full_names}
use Rattle.component_reader.proofs.CutPartsAreNameParts.{parts-cut}
use Rattle.component_reader.proofs.FullNamesAreNoLabels.{no-label}
use Rattle.package_form.proofs.AllAndContains.{all-get}
use Rattle.tables.proofs.ClosedTypesRowByRow.{split}

module _ (r : Resolve) (p : PackageParts) (i : Interface) (at : slice_get r.packages i.«package».0 ≡ Some p) (names : IsTrue (has_full_names r)) (label : is_label i.name ≡ true) where
  told : full_name r i ≡ full_name_in (Some p) i.name
  told = ap (λ (o : Option PackageParts). full_name_in o i.name) at

  is-full : IsFullName (full_name r i) (name_parts p i.name)
  is-full =
      let whole = all-get is_package_name r.packages i.«package».0 p names at in
      let a = split (is_package_label p.namespace) _ whole in
      let b = split (is_package_label p.name) _ a.1 in
      record {
        spelt = told;
        namespace = a.0;
        package_name = b.0;
        name = record { spelt = refl; label = label; reads = b.1 };
      }

  pub full-name-cut : (package_in_name (full_name r i) ≡ p) × (interface_text (full_name r i) ≡ i.name)
  full-name-cut =
      let cut = parts-cut (full_name r i) (name_parts p i.name) is-full in
      (λ j. record { namespace = cut.0 j; name = cut.1 j; version = cut.3 j }, cut.2)

  pub full-no-label : is_label (full_name r i) ≡ false
  full-no-label = ap is_label told ∙ no-label (name_parts p i.name)
