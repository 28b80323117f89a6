use Rattle.std.proofs.Common.{◌≡◌, map, length, None, Some, ap, sym, ◌∙◌}
use Rattle.std.specs.Option.{option_map}
use Rattle.ctype_format.specs.View.{decl_view, decls_of}
use Rattle.component_reader.specs.World.{world_read}
use Rattle.component_reader.specs.Component.{ComponentRead, with_component}
use Rattle.component_reader.specs.Readers.{world_with, component_view}
use Rattle.component_reader.proofs.component.ComponentReader.read_component.Goals as goal

pub returns : goal.returns
returns c =
    let own = c.args.self.now in
    let s = component_view own in
    let ds = decls_of (map decl_view c.args.decls.now) in
    let w = world_with c.read.new.rows.items c.in_ok-reader.reader in
    let id : c.in_ok-place.place.0 ≡ length own.worlds.items = c.in_ok-place.ensures.ok ∙ ap length c.deref.ensures.value in
    let again : world_read own.instances.items (length own.worlds.items) ds own.rows.items ≡ Some w =
    (λ j. world_read (sym c.deref-2.ensures.value j) (sym id j) ds own.rows.items) ∙ c.in_ok-reader.ensures in
    let made : with_component s w ≡ component_view (record { packages = own.packages; rows = c.read.new.rows; interfaces = own.interfaces; exports = own.exports; worlds = own.worlds; indices = c.push.new.self; instances = c.push-2.new.self; awaited = None; awaited_world = Some c.in_ok-reader.reader; keyed = own.keyed }) =
    λ j. record {
      packages = s.packages;
      rows = w.inside.rows;
      interfaces = s.interfaces;
      exports = s.exports;
      worlds = s.worlds;
      indices = sym c.in_ok-push.ensures.items j;
      instances = sym c.in_ok-push-2.ensures.items j;
      awaited = None;
      awaited_world = Some w;
    } in
    ap (option_map (with_component s)) again ∙ ap (λ (x : ComponentRead). Some x) made
