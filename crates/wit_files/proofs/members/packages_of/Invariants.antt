use Rattle.std.proofs.Common.{◌≡◌, ◌+◌, length}
use Rattle.std.specs.List.{sum_by}
use Rattle.std.specs.Vec.Iter.{into_iter_len}
use Rattle.wit_files.proofs.members.packages_of.Given as goal

abbrev pub invariant-loop-file : goal.invariant-loop-file
invariant-loop-file l = sum_by (λ m. length m.files.items) l.members.items + length l.joined.files.items + into_iter_len l.file-iterator ≡ length l.fn.parts.items
