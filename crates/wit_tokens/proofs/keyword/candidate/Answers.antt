use Rattle.std.proofs.Common.{◌∙◌}
use Rattle.wit_tokens.proofs.KeywordsBySpelling.{placed}
use Rattle.wit_tokens.proofs.keyword.candidate.Goals as goal

pub returns : goal.returns
returns c = λ k spelled. c.keyword_at.ensures ∙ rw (c.from.ensures, c.from-2.ensures) (placed c.args.word.now k spelled)
