use Rattle.ctype_bin.proofs.DecodesByProductions.{only_fault, spelt_faultless}
use Rattle.ctype_bin.proofs.laws.faults_are_first.Goals as goal

pub returns-clause-one : goal.returns-clause-one
returns-clause-one c = only_fault

pub returns-clause-spelled : goal.returns-clause-spelled
returns-clause-spelled c = spelt_faultless
