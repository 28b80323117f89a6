use Rattle.std.proofs.Common.{◌≡◌, ◌+◌, length}
use Rattle.std.specs.Vec.Iter.{into_iter_len}
use Rattle.checked_packages.proofs.carried.sources_of.Given as goal

abbrev pub invariant-loop-package : goal.invariant-loop-package
invariant-loop-package l = length l.sources.items + into_iter_len l.package-iterator ≡ length l.fn.texts.items
