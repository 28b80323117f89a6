use Rattle.std.proofs.Common.{rules}
use Rattle.wit_component.proofs.SameDeclarations.{label-differs}
use Rattle.wit_component.proofs.same_declarations.is_same_name.Goals as goal

pub returns-in-Label-FullName : goal.returns-in-Label-FullName
returns-in-Label-FullName c = search (rules, label-differs)
