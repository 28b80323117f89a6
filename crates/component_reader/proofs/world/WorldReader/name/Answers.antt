use Rattle.std.proofs.Common.{Bool, cond, None, sym, subst}
use Rattle.ctype_format.specs.Names.{name_view}
use Rattle.ctype_format.specs.declared.raw.RawDescription.{RawDescription}
use Rattle.component_reader.specs.Types.{Becomes}
use Rattle.component_reader.specs.World.{interface_met, named_read}
use Rattle.component_reader.specs.Readers.{world_with}
use Rattle.component_reader.proofs.world.WorldReader.name.Goals as goal

pub returns-in-FullName-Instance : goal.returns-in-FullName-Instance
returns-in-FullName-Instance c =
    let rows = c.args.rows.now.items in
    let s = world_with rows c.args.self.now in
    let new = world_with rows c.name_interface.new.self in
    let read = named_read c.args.world.0 c.args.external.now.direction (name_view c.args.external.now.name.now) in
    let full = c.in-FullName-Instance.ensures in
    subst (λ (d : RawDescription). Becomes (read d s) new c.name_interface.result) (sym c.in-FullName-Instance.is-1)
    (subst (λ (b : Bool). Becomes (cond b None (interface_met c.args.external.now.direction s)) new c.name_interface.result) (sym full.0) (c.name_interface.ensures rows))
