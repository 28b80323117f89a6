use Rattle.tables.proofs.TextsComparedByParts.{tells-behind}
use Rattle.function_index.proofs.world_functions.name.is_in_package.Goals as goal

pub returns-in-Some : goal.returns-in-Some
returns-in-Some c = tells-behind c.in-Some.ensures c.as_bytes.ensures.is c.is_suffix.ensures
