use Rattle.std.proofs.Common.{drop}
use Rattle.wit_print.specs.Canonical.{lined_words, label_words}
use Rattle.wit_print.proofs.LeavesWords.{LeavesWords}
use Rattle.wit_print.proofs.definition.write_labels.Given as goal

abbrev pub invariant-loop-label : goal.invariant-loop-label
invariant-loop-label l = LeavesWords (lined_words label_words l.labels) (lined_words label_words (drop l.label-index l.labels)) l.initial.out l.out
