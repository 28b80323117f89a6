use Rattle.std.proofs.Common.{◌≡◌, ◌+◌, length}
use Rattle.std.specs.Vec.Iter.{into_iter_len}
use Rattle.wit_binaries.proofs.texts.push_texts.Given as goal

abbrev pub invariant-loop-package : goal.invariant-loop-package
invariant-loop-package l = length l.texts.items + into_iter_len l.package-iterator ≡ length l.fn.texts.items + length l.fn.packages.items
