use Rattle.std.proofs.Common.{◌≡◌, ap, ap₂, sym, ◌∙◌, subst, refl, true, IfOk}
use Rattle.std.proofs.lemmas.Result.{IfErr-weaker}
use Rattle.clap.specs.Simple.{is_simple, subcommand_of}
use Rattle.clap.specs.Takes.{takes}
use Rattle.clap.proofs.OnLiterals.{clap_on_literals}
use Rattle.words.specs.Asked.{IsAskedBy, NamesCommand}
use Rattle.words.specs.Earlier.{lent_texts, other_words, texts_of}
use Rattle.words.specs.Reader.{program_app}
use Rattle.words.proofs.parsing.command.Goals as goal

simple : is_simple program_app ≡ true
unfolding clap_on_literals
simple = refl

pub returns-in-Ok-clause-found : goal.returns-in-Ok-clause-found
returns-in-Ok-clause-found c =
    let words : lent_texts c.as_slice.result.now ≡ other_words (texts_of c.args.words.now) = ap lent_texts c.as_slice.ensures.value ∙ c.in_ok-earlier.ensures.others in
    let rows = (c.in-Ok.ensures.matches (ap is_simple c.in_ok-parser.ensures ∙ simple)).1 ∙ ap₂ subcommand_of c.in_ok-parser.ensures words in
    subst (λ s. IfOk c.command_of.result (IsAskedBy s)) rows c.command_of.ensures.found

pub returns-in-Ok-clause-taken : goal.returns-in-Ok-clause-taken
returns-in-Ok-clause-taken c =
    let words : lent_texts c.as_slice.result.now ≡ other_words (texts_of c.args.words.now) = ap lent_texts c.as_slice.ensures.value ∙ c.in_ok-earlier.ensures.others in
    let rows = (c.in-Ok.ensures.matches (ap is_simple c.in_ok-parser.ensures ∙ simple)).1 ∙ ap₂ subcommand_of c.in_ok-parser.ensures words in
    IfErr-weaker c.command_of.result _ _ (λ e h taken. h (subst NamesCommand (sym rows) taken.1)) c.command_of.ensures.taken

pub returns-in-Err-clause-taken : goal.returns-in-Err-clause-taken
returns-in-Err-clause-taken c = λ taken.
    let words : lent_texts c.as_slice.result.now ≡ other_words (texts_of c.args.words.now) = ap lent_texts c.as_slice.ensures.value ∙ c.in_ok-earlier.ensures.others in
    c.refusal.ensures.memory (c.kind.ensures ∙ c.in-Err.ensures.passes (ap₂ takes c.in_ok-parser.ensures words ∙ taken.0))
