use Rattle.std.proofs.Common.{length}
use Rattle.std.specs.Prelude.{All}
use Rattle.wit_tree.specs.Told.{IsInText}
use Rattle.wit_tree.proofs.told.add_package.Given as goal

abbrev pub invariant-loop-at : goal.invariant-loop-at
invariant-loop-at l = All (IsInText (length l.text)) l.list.items
