use Rattle.std.proofs.Common.{◌+◌, get_or, ap, ◌∙◌}
use Rattle.std.specs.Int.{w64, from_le_bytes}
use Rattle.std.specs.Prelude.{slice_range}
use Rattle.std.proofs.lemmas.Nat.{le_bytes_8}
use Rattle.ranges.proofs.FrontsThatCrossed.{part-length}
use Rattle.ranges.proofs.OneNumberCrosses.{part-get, range-byte}
use Rattle.ranges.proofs.words.word_at.Goals as goal

pub returns : goal.returns
returns c = λ j h.
    let m = c.args.memory.now in
    let a = c.args.at in
    let is = c.copy_from_slice.ensures.after in
    let long = part-length m a 8 c.requires in
    ap (λ l. get_or l j 0) (le_bytes_8 (slice_range m a (a + 8)) _ long (range-byte m (λ i. (c.type_inv.memory i).fits) a 8) (c.from_le_bytes.ensures ∙ ap (from_le_bytes w64) is)) ∙ part-get m a 8 j h
