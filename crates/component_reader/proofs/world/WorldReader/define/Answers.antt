use Rattle.ctype_format.specs.View.{type_view}
use Rattle.component_reader.specs.Instance.{settled, defined_read}
use Rattle.component_reader.specs.World.{with_inside}
use Rattle.component_reader.specs.Readers.{read_with, world_with}
use Rattle.component_reader.proofs.EachElementIsReadOrNone.{becomes-within}
use Rattle.component_reader.proofs.DeclarationsReadInOrder.{becomes-behind}
use Rattle.component_reader.proofs.world.WorldReader.define.Goals as goal

pub returns : goal.returns
returns c =
    let s = world_with c.args.rows.now.items c.args.self.now in
    let rows = c.settle.new.rows.items in
    let new = read_with rows c.define.new.self in
    becomes-within (with_inside s) _ new c.define.result
    (becomes-behind (settled s.inside) (defined_read (type_view c.args.ty.now)) (read_with rows c.settle.new.self) new c.define.result c.in_ok-settle.ensures (c.define.ensures rows))
