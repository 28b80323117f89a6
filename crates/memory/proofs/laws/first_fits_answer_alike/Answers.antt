use Rattle.memory.proofs.FirstFitAlike.{first_fits_alike}
use Rattle.memory.proofs.laws.first_fits_answer_alike.Goals as goal

pub returns : goal.returns
returns c = first_fits_alike
