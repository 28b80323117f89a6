use Rattle.opening.proofs.RowsStay.{rows-stay}
use Rattle.opening.proofs.laws.rows_stay.Goals as goal

pub returns : goal.returns
returns c = rows-stay
