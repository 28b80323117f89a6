use Rattle.std.proofs.Common.{◌≡◌, length}
use Rattle.wit_files.proofs.texts.texts_of.Given as goal

abbrev pub invariant-loop-source : goal.invariant-loop-source
invariant-loop-source l = length l.texts.items ≡ l.source-index
