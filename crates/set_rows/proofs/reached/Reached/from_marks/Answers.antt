use Rattle.set_rows.specs.Reaches.{OfInterfaces}
use Rattle.set_rows.proofs.MarksOfReached.{interfaces-begun, are-reached}
use Rattle.set_rows.proofs.reached.Reached.from_marks.Goals as goal

pub returns : goal.returns
returns c =
    are-reached c.args.set.now (OfInterfaces c.args.interfaces.now) _ _
    (interfaces-begun c.args.set.now c.args.interfaces.now c.in_ok-marked.marked c.in_ok-marked.ensures) c.in_ok-grown.ensures
