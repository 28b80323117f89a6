-- Where the names of each scope of a set differ, so do the labels of its types.
use Rattle.std.proofs.Common.{◌≡◌, ℕ, slice_get, Option, None, Some, refl, ap, sym, subst, ◌∙◌, arith}
use Rattle.std.proofs.Math.Logic.{∥∥₁_elim}
use Rattle.std.proofs.lemmas.Option.{slice_get_within, get_or_from_slice_get}
use Rattle.package_form.specs.Scope.{AreDistinct}
use Rattle.package_form.specs.Form.{ids_of}
use Rattle.package_form.specs.Naming.{kind_members}
use Rattle.package_form.proofs.AllAndContains.{all-tail, all_map-at}
use Rattle.package_sets.specs.SetForm.{IsInSetForm}
use Rattle.package_sets.specs.SetScopes.{members_if, members_at}
use Rattle.package_sets.proofs.GrowingLists.{contains-get, get-contains}
use Rattle.tables.specs.Labelled.{labelled_type}
use Rattle.tables.specs.declared.tables.ValType.{ValType}
use Rattle.tables.specs.declared.tables.TypeName.{TypeName}
use Rattle.tables.specs.declared.tables.Definition.{Definition}
use Rattle.tables.specs.declared.tables.Definition.TheVariants as row
use Rattle.tables.specs.declared.tables.Resolve.{Resolve}
use Rattle.value_json.specs.Apart.{HasApartLabels}
use Rattle.value_json.specs.Json.{HasDistinctLabels}
use Rattle.value_json.proofs.DistinctLabelsAreAFact.{prop-rows, prop-type}
use Rattle.value_json.proofs.LabelsAreApart.{IsScope, unnamed-scope-of, labels-of-scopes}
use Rattle.package_form.proofs.NamesStandForOneRow.{named}
use Rattle.package_sets.proofs.DistinctNames.SetNamesStandForOne.{type-in}

-- the members of each type are a scope
scope-at : (r : Resolve) → IsInSetForm r → (a : ℕ) (d : Definition) → slice_get r.definitions a ≡ Some d → IsScope d
unfolding named
scope-at r form a (row.Function f) e = tt
scope-at r form a (row.Type d) e = by d.name refl
  where
    with-name : (o : Option TypeName) → d.name ≡ o → slice_get r.definitions a ≡ Some (row.Type (record { name = o; kind = d.kind }))
    with-name o q = e ∙ ap (λ (n : Option TypeName). Some (row.Type (record { name = n; kind = d.kind }))) q

    by : (o : Option TypeName) → d.name ≡ o → AreDistinct (kind_members d.kind)
    by None q = unnamed-scope-of r.definitions form.postfix a d.kind (with-name None q)
    by (Some y) q =
        let t = type-in r.definitions 0 0 r.interfaces 0 r.worlds form.rows.stands a y (omega arith) (d.kind, with-name (Some y) q) in
        let scopes = all-tail AreDistinct _ _ (form.scopes.interfaces t.interface (get-contains r.interfaces t.place t.interface t.at)) in
        let place = contains-get (ids_of t.interface) a t.id in
        let here = all_map-at AreDistinct (members_at r.definitions) (ids_of t.interface) place.0 a scopes (slice_get_within (ids_of t.interface) place.0 a place.1)
        (sym (get_or_from_slice_get (ids_of t.interface) place.0 a a place.1)) in
        subst (λ (o : Option Definition). AreDistinct (members_if o)) e here

pub labels-apart : (r : Resolve) → ∥ IsInSetForm r ∥₁ → HasApartLabels r × ((ty : ValType) → HasDistinctLabels (labelled_type r ty))
labels-apart r form =
    let same : IsProp (HasApartLabels r × ((ty : ValType) → HasDistinctLabels (labelled_type r ty))) = hlevel (prop-rows r.definitions, prop-type) in
    ∥∥₁_elim form same (λ is. labels-of-scopes r (λ a d e. scope-at r is a d e))
