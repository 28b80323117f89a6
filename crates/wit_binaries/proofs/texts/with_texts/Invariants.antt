use Rattle.std.proofs.Common.{◌≡◌, ◌+◌, ◌≤◌, length}
use Rattle.std.specs.Vec.Iter.{into_iter_len}
use Rattle.wit_binaries.proofs.texts.with_texts.Given as goal

abbrev pub invariant-loop-source : goal.invariant-loop-source
invariant-loop-source l = l.report.status ≡ 0 → length l.fn.sources.items ≤ length l.texts.items + into_iter_len l.source-iterator
