use Rattle.std.proofs.Common.{refl}
use Rattle.wit_grammar.specs.Grammar as g
use Rattle.wit_text.proofs.FaultsByNextToken.{none-begins}
use Rattle.wit_text.proofs.ProductionsReadExactly.{exact-file}
use Rattle.wit_text.proofs.TwoNestingLimits.{none-at-any-nesting, one-file}
use Rattle.wit_text.proofs.laws.files_are_read_exactly.Goals as goal

pub returns-clause-exact : goal.returns-clause-exact
returns-clause-exact c = exact-file

pub returns-clause-begun : goal.returns-clause-begun
returns-clause-begun c = λ end ts e h. none-begins end (g.file end g.nesting) (exact-file end g.nesting) (λ x. refl) ts e h

pub returns-clause-anyhow : goal.returns-clause-anyhow
returns-clause-anyhow c = none-at-any-nesting

pub returns-clause-one : goal.returns-clause-one
returns-clause-one c = one-file
