-- What holds of the labels of every package in form whose names differ in each of their scopes.
use Rattle.std.specs.Prelude.{All}
use Rattle.tables.specs.Labelled.{labelled_type}
use Rattle.tables.specs.declared.tables.ValType.{ValType}
use Rattle.tables.specs.declared.tables.Resolve.{Resolve}
use Rattle.package_form.specs.Scope.{AreDistinct}
use Rattle.package_form.specs.Form.{IsInPackageForm}
use Rattle.package_form.specs.Naming.{package_scopes}
use Rattle.value_json.specs.Apart.{HasApartLabels}
use Rattle.value_json.specs.Json.{HasDistinctLabels}

-- no record has a label twice, and no variant, enum or flags at any depth of a type
abbrev pub LabelsAreApart : Resolve → Type 0
LabelsAreApart r =
    ∥ IsInPackageForm r ∥₁ → ∥ All AreDistinct (package_scopes r) ∥₁ → HasApartLabels r × ((ty : ValType) → HasDistinctLabels (labelled_type r ty))
