use Rattle.std.proofs.Common.{subst, List}
use Rattle.std.specs.Prelude.{flat_map}
use Rattle.tables.specs.declared.tables.World.{World}
use Rattle.set_rows.specs.Reaches.{world_owners, OfPackage}
use Rattle.set_rows.specs.Marking.{AddsMarks}
use Rattle.set_rows.proofs.MarksOfReached.{package-begun, are-reached}
use Rattle.set_rows.proofs.reached.Reached.of.Goals as goal

pub returns : goal.returns
returns c =
    are-reached c.args.set.now (OfPackage c.args.id.0) _ _
    (package-begun c.args.set.now c.args.id.0 c.in_ok-reached.reached _ c.in_ok-reached.ensures
    (subst (λ (ws : List World). AddsMarks (flat_map (world_owners c.args.id.0) ws) c.in_ok-reached.reached c.add_worlds.new.self) c.as_slice.ensures c.add_worlds.ensures))
    c.in_ok-grown.ensures
