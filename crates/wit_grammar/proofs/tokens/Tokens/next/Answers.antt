use Rattle.wit_grammar.proofs.TokensFromAnIndex.{one_more, none_left}
use Rattle.wit_grammar.proofs.tokens.Tokens.next.Goals as goal

pub returns-then-at-self-clause-some : goal.returns-then-at-self-clause-some
returns-then-at-self-clause-some c = one_more c.args.self.now c.args.at _ c.if-at-self.true

pub returns-else-at-self-clause-none : goal.returns-else-at-self-clause-none
returns-else-at-self-clause-none c = none_left c.args.self.now c.args.at c.if-at-self.false
