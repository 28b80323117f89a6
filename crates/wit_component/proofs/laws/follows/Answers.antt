use Rattle.wit_component.proofs.CandidateIsThePackage.{reads-as}
use Rattle.wit_component.proofs.laws.follows.Goals as goal

pub returns : goal.returns
returns c = λ r s d. reads-as c.args._raw.now r s d
