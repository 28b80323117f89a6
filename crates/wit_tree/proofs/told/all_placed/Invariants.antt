use Rattle.std.specs.Prelude.{All}
use Rattle.wit_tree.specs.Told.{IsInText}
use Rattle.wit_tree.proofs.told.all_placed.Given as goal

abbrev pub invariant-loop-fault : goal.invariant-loop-fault
invariant-loop-fault l = All (IsInText l.len) l.list.items
