use Rattle.std.proofs.Common.{◌≡◌, [], ◌∷◌, ◌++◌, None, Some, ap, sym, ◌∙◌}
use Rattle.std.specs.Option.{option_map}
use Rattle.atoms.specs.FullName.{full_name_text}
use Rattle.tables.specs.declared.tables.World.{World}
use Rattle.component_reader.specs.Component.{ComponentRead, package_in_name, with_package, last_package, world_named, with_world}
use Rattle.component_reader.specs.Names.{parts_view}
use Rattle.component_reader.specs.Readers.{world_with, component_view}
use Rattle.component_reader.proofs.CutPartsAreNameParts.{parts-cut}
use Rattle.component_reader.proofs.component.ComponentReader.export_component.Goals as goal

pub returns : goal.returns
returns c =
    let own = c.args.self.now in
    let s = component_view own in
    let parts = parts_view c.args.name in
    let text = full_name_text parts in
    let reader = c.in-Some.reader in
    let w = world_with own.rows.items reader in
    let named = c.in_ok-label.ensures ∙ sym (parts-cut text parts c.requires).2 in
    let packages = c.in_ok-package.ensures.packages in
    let last_ = c.in_ok-package.ensures.last ∙ ap last_package packages in
    let world : c.into_world.result ≡ world_named (last_package (with_package s.packages (package_in_name text))) text w =
    c.into_world.ensures ∙ (λ j. record { «package» = last_ j; name = named j; items = w.items }) in
    let worlds = c.in_ok-push.ensures.items ∙ ap (λ (x : World). own.worlds.items ++ x ∷ []) world in
    let last : option_map (world_with own.rows.items) c.take.new.self ≡ None = ap (option_map (world_with own.rows.items)) c.in-Some.ensures.after in
    let made : with_world text s w ≡ component_view (record { packages = c.package_of.new.packages; rows = own.rows; interfaces = own.interfaces; exports = own.exports; worlds = c.push.new.self; indices = own.indices; instances = own.instances; awaited = own.awaited; awaited_world = c.take.new.self; keyed = own.keyed }) =
    sym (λ j. record {
      packages = packages j;
      rows = s.rows;
      interfaces = s.interfaces;
      exports = s.exports;
      worlds = worlds j;
      indices = s.indices;
      instances = s.instances;
      awaited = s.awaited;
      awaited_world = last j;
    }) in
    ap (λ r. option_map (with_world text s) (option_map (world_with own.rows.items) r)) (sym c.in-Some.ensures.value) ∙ ap (λ (x : ComponentRead). Some x) made
