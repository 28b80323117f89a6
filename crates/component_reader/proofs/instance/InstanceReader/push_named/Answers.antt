use Rattle.std.proofs.Common.{◌≡◌, List, ℕ, [], ◌∷◌, ◌++◌, length, Some, ap, ◌∙◌}
use Rattle.package_form.specs.Ids.{type_id}
use Rattle.tables.specs.declared.tables.TypeId.{TypeId}
use Rattle.component_reader.specs.Instance.{named_row, uses_with, types_with, with_name}
use Rattle.component_reader.specs.Readers.{awaited_view, names_view}
use Rattle.component_reader.proofs.DeclarationsReadInOrder.{same-instance, names-inserted}
use Rattle.component_reader.proofs.instance.InstanceReader.push_named.Goals as goal

pub returns : goal.returns
returns c =
    let old = c.args.self.now in
    let rows = c.args.rows.now.items in
    let listed = c.in_ok-list_type.ensures in
    let key = c.in_ok-from_slice.field-0 in
    let id : TypeId = type_id c.in_ok-next_place.field-0 in
    let placed : id ≡ type_id (length rows) = ap type_id (c.in_ok-next_place.ensures.ok ∙ ap length c.deref.ensures.value) in
    same-instance _ _
    (c.in_ok-push.ensures.items ∙ ap (λ (n : List ℕ). rows ++ named_row c.args.place.0 n c.args.kind ∷ []) c.in_ok-label.ensures)
    (c.in_ok-push-2.ensures.items
    ∙ ap (λ v. v.items ++ Some id ∷ []) listed.same.0
    ∙ ap (λ (t : TypeId). old.indices.items ++ Some t ∷ []) placed)
    (ap awaited_view (listed.same.1 ∙ c.requires.awaited))
    (ap names_view c.in_ok-insert.ensures.entries
    ∙ names-inserted c.list_type.new.self.names.entries key id
    ∙ ap (λ m. with_name (names_view m.entries) key.items id) listed.same.2
    ∙ ap (λ (n : List ℕ). with_name (names_view old.names.entries) n id) c.in_ok-from_slice.ensures.items
    ∙ ap (with_name (names_view old.names.entries) c.args.name.now) placed)
    (listed.uses ∙ ap (λ (t : TypeId). uses_with old.uses.items t c.args.kind) placed)
    (listed.types ∙ ap (λ (t : TypeId). types_with old.types.items t c.args.kind) placed)
    (ap (λ v. v.items) listed.same.3)
