use Rattle.std.proofs.Common.{inr, List, ℕ, slice_get, Option, Some, refl, ap, sym, ◌∙◌}
use Rattle.std.specs.Option.{option_map}
use Rattle.std.specs.Map.{lookup}
use Rattle.std.specs.Str.{bytes_eq}
use Rattle.std.proofs.lemmas.Option.{slice_get_read}
use Rattle.ctype_format.specs.declared.raw.RawAlias.{RawAlias}
use Rattle.tables.specs.declared.tables.TypeId.{TypeId}
use Rattle.tables.specs.declared.tables.InterfaceId.{InterfaceId}
use Rattle.component_reader.specs.Component.{ComponentRead, alias_read, with_read_type}
use Rattle.component_reader.specs.Readers.{component_view}
use Rattle.component_reader.proofs.DeclarationsReadInOrder.{type-found}
use Rattle.component_reader.proofs.component.ComponentReader.alias.Goals as goal

pub returns-in_default-get-2 : goal.returns-in_default-get-2
returns-in_default-get-2 c =
    let s = component_view c.args.self.now in
    let i = c.in-InstanceExport.instance in
    let name = c.in-InstanceExport.name in
    let types = c.in-Some.types.now in
    let at = c.in-Some.ensures.lookup in
    let there = ap (λ ms. slice_get ms i) (sym c.deref.ensures.value) ∙ slice_get_read c.deref.result.now _ i types refl at.3.0 at.1 in
    let found = type-found (λ m. m.entries) c.args.self.now.exports.items i types name there in
    let none = ap (λ (n : List ℕ). lookup (λ v. bytes_eq n v.items) types.entries) (sym c.as_bytes.ensures.is) ∙ sym c.in_default-get-2.ensures.value in
    inr (refl, ap (λ (a : RawAlias). alias_read a s) c.in-InstanceExport.is ∙ ap (option_map (with_read_type s)) (found ∙ none))

pub returns : goal.returns
returns c =
    let s = component_view c.args.self.now in
    let i = c.in-InstanceExport.instance in
    let name = c.in-InstanceExport.name in
    let types = c.in-Some.types.now in
    let at = c.in-Some.ensures.lookup in
    let there = ap (λ ms. slice_get ms i) (sym c.deref.ensures.value) ∙ slice_get_read c.deref.result.now _ i types refl at.3.0 at.1 in
    let found = type-found (λ m. m.entries) c.args.self.now.exports.items i types name there in
    let some = ap (λ (n : List ℕ). lookup (λ v. bytes_eq n v.items) types.entries) (sym c.as_bytes.ensures.is) ∙ sym c.in-Some-get.ensures.value in
    let with_indices : List (Option TypeId) → List (Option InterfaceId) → Option ComponentRead =
    λ indices instances.
    Some (record {
      packages = s.packages;
      rows = s.rows;
      interfaces = s.interfaces;
      exports = s.exports;
      worlds = s.worlds;
      indices = indices;
      instances = instances;
      awaited = s.awaited;
      awaited_world = s.awaited_world;
    }) in
    ap (λ (a : RawAlias). alias_read a s) c.in-InstanceExport.is ∙ ap (option_map (with_read_type s)) (found ∙ some) ∙ (λ j. with_indices (sym c.in_ok-push.ensures.items j) (sym c.in_ok-push-2.ensures.items j))
