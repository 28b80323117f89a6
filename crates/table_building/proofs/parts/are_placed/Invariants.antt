use Rattle.std.proofs.Common.{◌≡◌, true, take}
use Rattle.std.specs.List.{list_all}
use Rattle.tables.specs.Tables.{is_placed}
use Rattle.table_building.proofs.parts.are_placed.Given as goal

abbrev pub invariant-loop-interface : goal.invariant-loop-interface
invariant-loop-interface l = list_all (is_placed l.definitions) (take l.interface-index l.interfaces) ≡ true
