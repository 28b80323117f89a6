use Rattle.std.proofs.Common.{length}
use Rattle.std.specs.Prelude.{All}
use Rattle.wit_tree.specs.Told.{IsInText}
use Rattle.wit_tree.proofs.told.add_versions.Given as goal

abbrev pub invariant-loop-word : goal.invariant-loop-word
invariant-loop-word l = All (IsInText (length l.text)) l.list.items
