use Rattle.canonical_abi.proofs.Calls.HalvesAreACall.{halves-are-a-call}
use Rattle.canonical_abi.proofs.laws.halves_are_a_call.Goals as goal

pub returns : goal.returns
returns g c = halves-are-a-call _
