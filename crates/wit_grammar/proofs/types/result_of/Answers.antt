use Rattle.wit_tokens.proofs.wit_syntax.TreesOfExpressions.{view-Result}
use Rattle.wit_grammar.proofs.types.result_of.Goals as goal

pub returns : goal.returns
returns c = view-Result c.args.ok c.args.error
