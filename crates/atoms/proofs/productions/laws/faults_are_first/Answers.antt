use Rattle.atoms.proofs.productions.SmallGrammarReadsExactly.{example_alone, example_met, example_spelled}
use Rattle.atoms.proofs.productions.laws.faults_are_first.Goals as goal

pub returns-clause-alone : goal.returns-clause-alone
returns-clause-alone c = example_alone

pub returns-clause-met : goal.returns-clause-met
returns-clause-met c = example_met

pub returns-clause-spelled : goal.returns-clause-spelled
returns-clause-spelled c = example_spelled
