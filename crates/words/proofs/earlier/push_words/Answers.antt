use Rattle.std.proofs.Common.{ap, ◌∙◌, rules}
use Rattle.words.specs.Earlier.{lent_texts}
use Rattle.words.proofs.WordsAfterCommand.{one_more}
use Rattle.words.proofs.earlier.push_words.Goals as goal

pub loop-word-preserved : goal.loop-word-preserved
loop-word-preserved c =
    ap lent_texts c.in_ok-push.ensures.items
    ∙ one_more (lent_texts c.args.others.now.items) c.loop-word.others.items c.as_str.result c.args.words.now c.loop-word.word-index
    c.word-item.result c.loop-word.invariant c.as_str.ensures.value c.word-item.is (search rules)
