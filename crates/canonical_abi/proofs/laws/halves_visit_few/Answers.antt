use Rattle.canonical_abi.proofs.Calls.VisitsFewNodes.{halves-visit-few}
use Rattle.canonical_abi.proofs.laws.halves_visit_few.Goals as goal

pub returns : goal.returns
returns g c = halves-visit-few _
