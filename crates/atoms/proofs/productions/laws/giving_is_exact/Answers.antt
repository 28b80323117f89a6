use Rattle.atoms.specs.Exactness.{plain}
use Rattle.atoms.proofs.productions.ProductionsReadExactly.{exact-give}
use Rattle.atoms.proofs.productions.laws.giving_is_exact.Goals as goal

pub returns : goal.returns
returns c = λ x. exact-give plain x
