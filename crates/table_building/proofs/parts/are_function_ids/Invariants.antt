use Rattle.std.proofs.Common.{◌≡◌, true, take}
use Rattle.std.specs.List.{list_all}
use Rattle.tables.specs.Tables.{is_function_id}
use Rattle.table_building.proofs.parts.are_function_ids.Given as goal

abbrev pub invariant-loop-id : goal.invariant-loop-id
invariant-loop-id l = list_all (is_function_id l.definitions) (take l.id-index l.ids) ≡ true
