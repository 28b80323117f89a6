use Rattle.std.proofs.Common.{◌≡◌, ◌+◌, length}
use Rattle.std.specs.Vec.Iter.{into_iter_len}
use Rattle.wit_files.proofs.members.parts_of.Given as goal

abbrev pub invariant-loop-text : goal.invariant-loop-text
invariant-loop-text l = l.report.status ≡ 0 → length l.list.items + into_iter_len l.text-iterator ≡ length l.fn.texts.items
