use Rattle.canonical_abi.proofs.Calls.TrapsHaveCauses.{traps-have-causes}
use Rattle.canonical_abi.proofs.Calls.VisitsFewNodes.{visits-few-nodes}
use Rattle.canonical_abi.proofs.Calls.HalvesAreACall.{halves-are-a-call}
use Rattle.canonical_abi.proofs.Sessions.OnlyValuesCross.{only-values-cross, traps-show-values}
use Rattle.witcall.proofs.laws.replies_keep_laws.Goals as goal

pub returns-clause-only_values : goal.returns-clause-only_values
returns-clause-only_values c = only-values-cross _ _ _ _ _

pub returns-clause-shown : goal.returns-clause-shown
returns-clause-shown c = traps-show-values _ _ _

pub returns-clause-causes : goal.returns-clause-causes
returns-clause-causes c = traps-have-causes _ _

pub returns-clause-few : goal.returns-clause-few
returns-clause-few c = visits-few-nodes _

pub returns-clause-halves : goal.returns-clause-halves
returns-clause-halves c = halves-are-a-call _
