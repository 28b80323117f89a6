use Rattle.ranges.proofs.VariantsMerged.{merged-byte}
use Rattle.ranges.proofs.words.merge_word.Goals as goal

pub returns-clause-put : goal.returns-clause-put
returns-clause-put c = λ masks known j g.
    merged-byte c.args.rows.now masks c.args.word.mask known c.args.new.now c.args.old.now c.put_word.new.caps c.args.word.at j c.word_at-2.result c.word_at.result c.word_of-mask.result c.choose-chosen.result g
    (c.word_at-2.ensures j g) (c.word_at.ensures j g) (c.word_of-mask.ensures j g) (c.choose-chosen.ensures j g) (c.put_word.ensures.put j g)
