use Rattle.std.proofs.Common.{◌≡◌, ◌++◌, length}
use Rattle.words.specs.Earlier.{with_files, behind_files, texts_of}
use Rattle.words.proofs.earlier.files_in_front.Given as goal

abbrev pub invariant-loop-file : goal.invariant-loop-file
invariant-loop-file l =
    (texts_of l.files.items ++ with_files (texts_of l.behind) ≡ with_files (texts_of l.words))
    × (behind_files (texts_of l.behind) ≡ behind_files (texts_of l.words))

abbrev pub decreases-loop-file : goal.decreases-loop-file
decreases-loop-file l = length l.behind
