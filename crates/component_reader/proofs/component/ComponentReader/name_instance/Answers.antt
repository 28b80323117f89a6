use Rattle.std.proofs.Common.{◌≡◌, [], ◌∷◌, ◌++◌, map, None, Some, ap, sym, ◌∙◌}
use Rattle.std.specs.Option.{option_map}
use Rattle.std.proofs.lemmas.List.{map-append}
use Rattle.atoms.specs.FullName.{full_name_text}
use Rattle.tables.specs.declared.tables.Interface.{Interface}
use Rattle.component_reader.specs.Component.{ComponentRead, package_in_name, with_package, last_package, interface_named, with_interface}
use Rattle.component_reader.specs.Names.{parts_view}
use Rattle.component_reader.specs.Readers.{names_view, read_with, component_view}
use Rattle.component_reader.proofs.CutPartsAreNameParts.{parts-cut}
use Rattle.component_reader.proofs.component.ComponentReader.name_instance.Goals as goal

pub returns : goal.returns
returns c =
    let own = c.args.self.now in
    let s = component_view own in
    let parts = parts_view c.args.name in
    let text = full_name_text parts in
    let reader = c.in-Some.reader in
    let i = read_with own.rows.items reader in
    let named = c.in_ok-label.ensures ∙ sym (parts-cut text parts c.requires).2 in
    let packages = c.in_ok-package.ensures.packages in
    let last_ = c.in_ok-package.ensures.last ∙ ap last_package packages in
    let interface : c.into_interface-interface.result.0 ≡ interface_named (last_package (with_package s.packages (package_in_name text))) text i =
    c.into_interface-interface.ensures.interface ∙ (λ j. record { «package» = last_ j; name = named j; uses = i.uses; types = i.types; functions = i.functions }) in
    let interfaces = c.in_ok-push.ensures.items ∙ ap (λ (x : Interface). own.interfaces.items ++ x ∷ []) interface in
    let exports = ap (map (λ m. names_view m.entries)) c.in_ok-push-2.ensures.items
    ∙ map-append (λ m. names_view m.entries) own.exports.items (c.into_interface-interface.result.1 ∷ [])
    ∙ ap (λ m. s.exports ++ names_view m.entries ∷ []) c.into_interface-interface.ensures.names in
    let last : option_map (read_with own.rows.items) c.take.new.self ≡ None = ap (option_map (read_with own.rows.items)) c.in-Some.ensures.after in
    let made : with_interface text s i ≡ component_view (record { packages = c.package_of.new.packages; rows = own.rows; interfaces = c.push.new.self; exports = c.push-2.new.self; worlds = own.worlds; indices = own.indices; instances = own.instances; awaited = c.take.new.self; awaited_world = own.awaited_world; keyed = own.keyed }) =
    sym (λ j. record { packages = packages j; rows = s.rows; interfaces = interfaces j; exports = exports j; worlds = s.worlds; indices = s.indices; instances = s.instances; awaited = last j; awaited_world = s.awaited_world }) in
    ap (λ r. option_map (with_interface text s) (option_map (read_with own.rows.items) r)) (sym c.in-Some.ensures.value) ∙ ap (λ (x : ComponentRead). Some x) made
