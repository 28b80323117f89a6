use Rattle.tables.proofs.TextsComparedByParts.{both_behind}
use Rattle.tables.proofs.lookup.behind_part.Goals as goal

pub returns : goal.returns
returns c = both_behind _ _ _ _ _ c.in_ok-rest.ensures c.behind-2.ensures
