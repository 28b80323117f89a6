use Rattle.std.proofs.Common.{◌≡◌, ◌++◌, take}
use Rattle.words.specs.Earlier.{texts_of, lent_texts}
use Rattle.words.proofs.earlier.push_words.Given as goal

abbrev pub invariant-loop-word : goal.invariant-loop-word
invariant-loop-word l = lent_texts l.others.items ≡ lent_texts l.initial.others.items ++ texts_of (take l.word-index l.words)
