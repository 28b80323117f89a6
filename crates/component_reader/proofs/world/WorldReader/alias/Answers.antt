use Rattle.std.proofs.Common.{◌≡◌, Option, Some, ap, sym, ◌∙◌}
use Rattle.std.specs.Option.{option_map}
use Rattle.component_reader.specs.Instance.{InstanceRead, if_found}
use Rattle.component_reader.specs.World.{WorldRead, aliased_interface, awaiting_interface}
use Rattle.component_reader.specs.Readers.{read_with, world_with}
use Rattle.component_reader.proofs.world.WorldReader.alias.Goals as goal

pub returns : goal.returns
returns c =
    let s = world_with c.args.rows.now.items c.args.self.now in
    let i = read_with c.settle.new.rows.items c.settle.new.self in
    let told = aliased_interface c.args.instances.now c.args.alias.now in
    let found : told ≡ Some c.in-Some.id = sym c.aliased_interface.ensures ∙ c.in-Some.is in
    let with_index_of : InstanceRead → Option WorldRead = λ x. Some (record { inside = x; items = s.items; interface = Some c.in-Some.id }) in
    ap (λ (o : Option InstanceRead). if_found o (λ x. option_map (awaiting_interface s x) told)) c.in_ok-settle.ensures
    ∙ ap (option_map (awaiting_interface s i)) found
    ∙ ap with_index_of (sym (c.in_ok-push_index.ensures c.settle.new.rows.items))
