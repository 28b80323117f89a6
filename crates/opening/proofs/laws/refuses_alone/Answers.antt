use Rattle.opening.proofs.OpensAlone.{refuses-alone}
use Rattle.opening.proofs.laws.refuses_alone.Goals as goal

pub returns : goal.returns
returns c = refuses-alone
