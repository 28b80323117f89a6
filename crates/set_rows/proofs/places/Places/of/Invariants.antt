use Rattle.set_rows.proofs.PlacesOfMarked.{ArePlaced}
use Rattle.set_rows.proofs.places.Places.of.Given as goal

abbrev pub invariant-loop-mark : goal.invariant-loop-mark
invariant-loop-mark l = ArePlaced l.mark-items l.mark-index l.count l.before.items
