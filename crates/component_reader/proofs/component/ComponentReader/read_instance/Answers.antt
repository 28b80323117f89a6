use Rattle.std.proofs.Common.{◌≡◌, ℕ, [], ◌∷◌, ◌++◌, map, length, None, Some, ap, sym, ◌∙◌}
use Rattle.std.specs.Option.{option_map}
use Rattle.ctype_format.specs.View.{decl_view, decls_of}
use Rattle.component_reader.specs.Instance.{instance_read}
use Rattle.component_reader.specs.Component.{ComponentRead, with_read_instance}
use Rattle.component_reader.specs.Readers.{read_with, component_view}
use Rattle.component_reader.proofs.component.ComponentReader.read_instance.Goals as goal

pub returns : goal.returns
returns c =
    let own = c.args.self.now in
    let s = component_view own in
    let ds = decls_of (map decl_view c.args.decls.now) in
    let i = read_with c.read.new.rows.items c.in_ok-reader.reader in
    let id : c.in_ok-place.place.0 ≡ length own.interfaces.items = c.in_ok-place.ensures.ok ∙ ap length c.deref.ensures.value in
    let again : instance_read own.indices.items (length own.interfaces.items) ds own.rows.items ≡ Some i =
    (λ j. instance_read (sym c.deref-2.ensures.value j) (sym id j) ds own.rows.items) ∙ c.in_ok-reader.ensures in
    let instances = ap (λ (n : ℕ). s.instances ++ Some (record { 0 = n }) ∷ []) (sym id) ∙ sym c.in_ok-push-2.ensures.items in
    let made : with_read_instance s i ≡ component_view (record { packages = own.packages; rows = c.read.new.rows; interfaces = own.interfaces; exports = own.exports; worlds = own.worlds; indices = c.push.new.self; instances = c.push-2.new.self; awaited = Some c.in_ok-reader.reader; awaited_world = None; keyed = own.keyed }) =
    λ j. record {
      packages = s.packages;
      rows = i.rows;
      interfaces = s.interfaces;
      exports = s.exports;
      worlds = s.worlds;
      indices = sym c.in_ok-push.ensures.items j;
      instances = instances j;
      awaited = Some i;
      awaited_world = None;
    } in
    ap (option_map (with_read_instance s)) again ∙ ap (λ (x : ComponentRead). Some x) made
