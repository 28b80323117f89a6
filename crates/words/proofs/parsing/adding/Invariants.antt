use Rattle.std.proofs.Common.{◌≡◌, false, take, []}
use Rattle.clap.specs.Simple.{app_of}
use Rattle.clap.specs.declared.builder.command.Command.TheViews.{out-Command}
use Rattle.words.specs.Earlier.{lent_texts}
use Rattle.words.specs.Reader.{with_words}
use Rattle.words.proofs.parsing.adding.Given as goal

abbrev pub invariant-loop-word : goal.invariant-loop-word
invariant-loop-word l =
    (app_of l.command ≡ record { top = with_words l.name (lent_texts (take l.word-index l.words)); subs = [] })
    × ((out-Command l.command).has_globals ≡ false)
