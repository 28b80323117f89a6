use Rattle.std.proofs.Common.{◌≡◌, true, take}
use Rattle.std.specs.List.{list_all}
use Rattle.tables.specs.Tables.{is_standard}
use Rattle.table_building.proofs.parts.are_standard.Given as goal

abbrev pub invariant-loop-definition : goal.invariant-loop-definition
invariant-loop-definition l = list_all is_standard (take l.definition-index l.definitions) ≡ true
