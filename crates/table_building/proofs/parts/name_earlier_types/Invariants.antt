use Rattle.std.proofs.Common.{◌≡◌, true, take}
use Rattle.std.specs.List.{list_all}
use Rattle.tables.specs.Tables.{are_earlier, definition_all, is_type}
use Rattle.table_building.proofs.parts.name_earlier_types.Given as goal

abbrev pub invariant-loop-place : goal.invariant-loop-place
invariant-loop-place l = (are_earlier 0 (take l.place l.definitions) ≡ true) × (list_all (definition_all (is_type l.definitions)) (take l.place l.definitions) ≡ true)
