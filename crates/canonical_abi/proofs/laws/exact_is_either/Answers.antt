use Rattle.canonical_abi.proofs.Calls.ExactIsEither.{exact-is-either}
use Rattle.canonical_abi.proofs.laws.exact_is_either.Goals as goal

pub returns : goal.returns
returns g c = exact-is-either _
