use Rattle.std.proofs.Common.{◌≡◌, take}
use Rattle.std.specs.Prelude.{filter}
use Rattle.wit_format.specs.Solids.{is_solid}
use Rattle.wit_format.proofs.solid.solids_of.Given as goal

abbrev pub invariant-loop-piece : goal.invariant-loop-piece
invariant-loop-piece l = l.solids.items ≡ filter (λ p. is_solid p.kind) (take l.piece-index l.pieces)
