use Rattle.std.proofs.Common.{◌∙◌, ap, arith}
use Rattle.std.proofs.lemmas.List.{take_rest, length-drop}
use Rattle.wit_tokens.specs.Lexing.{front_of}
use Rattle.wit_tokens.proofs.lexer.front_at.Goals as goal

pub returns-clause-is : goal.returns-clause-is
returns-clause-is c = c.front_of.ensures.is ∙ ap front_of (take_rest c.args.text.now c.args.at)

pub returns-clause-within : goal.returns-clause-within
returns-clause-within c =
    let text = c.args.text.now in
    let takes = rw (take_rest text c.args.at, length-drop c.args.at text) at c.front_of.ensures.within in
    takes (omega arith)
