use Rattle.std.proofs.Common.{◌≡◌, ◌++◌, [], ◌∙◌, ℕ, List, All, map, ap, sym, subst}
use Rattle.std.specs.List.{filter_map}
use Rattle.std.proofs.lemmas.List.Elements.{filter_map-append}
use Rattle.package_form.specs.Scoped.{NameEntry}
use Rattle.package_form.proofs.AllAndContains.{all-none}
use Rattle.tables.specs.declared.tables.InterfaceId.{InterfaceId}
use Rattle.tables.specs.declared.tables.TypeId.{TypeId}
use Rattle.tree_meaning.specs.Imports.{type_within}
use Rattle.tree_meaning.specs.Building.{IsEntry, label_at}
use Rattle.tree_scopes.specs.KnownScopes.{IsScope, scope_names}
use Rattle.tree_scopes.proofs.imports.import_scope.Goals as goal

pub returns-clause-names : goal.returns-clause-names
returns-clause-names c =
    let rows = c.args.rows.now in
    let i = c.args.interface.now in
    let k = c.args.place.0 in
    let within : InterfaceId → List TypeId → List (List ℕ) = λ p ts. filter_map (type_within rows p.0) ts in
    let none : scope_names (record { interface = c.args.place; entries = c.in_ok-entries.entries }) ≡ [] = ap (λ (es : List NameEntry). map (λ (e : NameEntry). e.name) es) c.in_ok-entries.ensures in
    let uses : scope_names c.push_types.new.scope ≡ within c.args.place i.uses =
    c.in_ok-push_types.ensures.names ∙ ap (λ (ns : List (List ℕ)). ns ++ within c.args.place c.as_slice.result.now) none ∙ ap (within c.args.place) c.as_slice.ensures in
    let types : within c.push_types.new.scope.interface c.as_slice-2.result.now ≡ within c.args.place i.types =
    ap (λ (p : InterfaceId). within p c.as_slice-2.result.now) c.in_ok-push_types.ensures.interface ∙ ap (within c.args.place) c.as_slice-2.ensures in
    c.in_ok-push_types-2.ensures.names ∙ ap (λ (ns : List (List ℕ)). ns ++ within c.push_types.new.scope.interface c.as_slice-2.result.now) uses
    ∙ ap (λ (ns : List (List ℕ)). within c.args.place i.uses ++ ns) types ∙ sym (filter_map-append (type_within rows k) i.uses i.types)

pub returns-clause-scoped : goal.returns-clause-scoped
returns-clause-scoped c = λ t e.
    let empty : IsScope t (record { interface = c.args.place; entries = c.in_ok-entries.entries }) =
    record { each = subst (λ (es : List NameEntry). All (IsEntry t (label_at t c.args.place.0)) es) (sym c.in_ok-entries.ensures) (all-none (IsEntry t (label_at t c.args.place.0))) } in
    c.in_ok-push_types-2.ensures.scoped t e (c.in_ok-push_types.ensures.scoped t e empty)
