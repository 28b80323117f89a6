use Rattle.canonical_abi.proofs.Calls.VisitsFewNodes.{visits-few-nodes}
use Rattle.canonical_abi.proofs.laws.visits_few_nodes.Goals as goal

pub returns : goal.returns
returns g c = visits-few-nodes _
