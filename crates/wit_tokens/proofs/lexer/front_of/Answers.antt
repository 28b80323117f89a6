use Rattle.std.proofs.Common.{rules, arith}
use Rattle.wit_tokens.proofs.MarksAtTheFront.{mark_front_at}
use Rattle.wit_tokens.proofs.lexer.front_of.Goals as goal

pub returns-in-Some-clause-is : goal.returns-in-Some-clause-is
returns-in-Some-clause-is c = mark_front_at c.args.text.now c.in-Some.mark (omega arith) (search rules)
