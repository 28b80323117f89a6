use Rattle.std.proofs.Common.{length}
use Rattle.std.specs.Prelude.{All}
use Rattle.wit_tree.specs.Told.{IsInText}
use Rattle.wit_tree.proofs.told.add_packages.Given as goal

abbrev pub invariant-loop-node : goal.invariant-loop-node
invariant-loop-node l = All (IsInText (length l.text)) l.list.items
