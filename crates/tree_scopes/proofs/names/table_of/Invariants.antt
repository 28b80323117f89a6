use Rattle.std.proofs.Common.{take}
use Rattle.tree_scopes.specs.Lent.{lent_names}
use Rattle.tree_meaning.specs.Knowing.{TellsPlaces}
use Rattle.tree_scopes.proofs.names.table_of.Given as goal

abbrev pub invariant-loop-place : goal.invariant-loop-place
invariant-loop-place l = TellsPlaces (λ s. s.now) l.places.entries (lent_names (take l.place l.names))
