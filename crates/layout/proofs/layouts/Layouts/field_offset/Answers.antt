use Rattle.std.proofs.Common.{None, length}
use Rattle.tables.specs.Closed.{closed_type}
use Rattle.layout.proofs.PartsTellClosedTypes.{offset-told}
use Rattle.layout.proofs.layouts.Layouts.field_offset.Goals as goal

pub returns-in-None : goal.returns-in-None
returns-in-None c = λ r e. offset-told (closed_type r) (length c.args.self.now.rows) (closed_type r c.args.ty) c.args.index None (c.in-None.ensures.told r e)
