use Rattle.std.proofs.Common.{length}
use Rattle.std.specs.Prelude.{All}
use Rattle.wit_tree.specs.Told.{IsInText}
use Rattle.wit_tree.proofs.told.add_pieces.Given as goal

abbrev pub invariant-loop-piece : goal.invariant-loop-piece
invariant-loop-piece l = All (IsInText (length l.text)) l.list.items
