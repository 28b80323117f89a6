use Rattle.std.proofs.Common.{rules}
use Rattle.wit_tokens.proofs.LowerWords.{label_front}
use Rattle.wit_tokens.proofs.lexer.lower_word.Goals as goal

pub returns-in-Some-clause-is : goal.returns-in-Some-clause-is
returns-in-Some-clause-is c = search (rules, label_front)
