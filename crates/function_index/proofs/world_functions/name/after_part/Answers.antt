use Rattle.tables.proofs.TextsComparedByParts.{both_behind}
use Rattle.function_index.proofs.world_functions.name.after_part.Goals as goal

pub returns : goal.returns
returns c = both_behind _ _ _ _ _ c.in_ok-rest.ensures c.after-2.ensures
