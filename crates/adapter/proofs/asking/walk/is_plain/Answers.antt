use Rattle.adapter.proofs.asking.RequestsOfParts.{plain-asks-nothing}
use Rattle.adapter.proofs.asking.walk.is_plain.Goals as goal

pub returns-in_default : goal.returns-in_default
returns-in_default c = λ _. plain-asks-nothing c.args.primitive c.in_default.not-Char
