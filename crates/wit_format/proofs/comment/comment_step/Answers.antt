use Rattle.std.proofs.Common.{sym, ◌∙◌}
use Rattle.wit_tokens.proofs.OpenComments.{one_more}
use Rattle.wit_format.proofs.comment.comment_step.Goals as goal

pub returns-clause-some : goal.returns-clause-some
returns-clause-some c = one_more c.args.level c.args.text.now c.requires.«open» (sym c.begins_pair.ensures ∙ c.if-begins_pair.false) (sym c.begins_pair-2.ensures ∙ c.if-begins_pair-2.false) c.if-text-lt2.false
