use Rattle.std.proofs.Common.{◌++◌, take, ap, ◌∙◌}
use Rattle.words.specs.Earlier.{with_files, behind_files, lent_texts, texts_of}
use Rattle.words.proofs.WordsAfterCommand.{texts_behind, texts_in_front}
use Rattle.words.proofs.earlier.parted.Goals as goal

pub returns-clause-files : goal.returns-clause-files
returns-clause-files c =
    c.in_ok-files.ensures.files ∙ ap (λ words. with_files (texts_of words)) c.split_at.ensures.back
    ∙ ap with_files (texts_behind c.args.words.now c.min.result c.min.ensures)

pub returns-clause-others : goal.returns-clause-others
returns-clause-others c =
    c.in_ok-push_words-2.ensures
    ∙ ap (λ texts. texts ++ texts_of c.in_ok-files.behind.now)
    (c.in_ok-push_words.ensures ∙ ap (λ items. lent_texts items ++ texts_of c.split_at.result.0.now) c.new-others.ensures.items
    ∙ ap texts_of c.split_at.ensures.front ∙ texts_in_front c.args.words.now c.min.result c.min.ensures)
    ∙ ap (λ texts. take 2 (texts_of c.args.words.now) ++ texts) (
    c.in_ok-files.ensures.behind ∙ ap (λ words. behind_files (texts_of words)) c.split_at.ensures.back
    ∙ ap behind_files (texts_behind c.args.words.now c.min.result c.min.ensures)
    )
