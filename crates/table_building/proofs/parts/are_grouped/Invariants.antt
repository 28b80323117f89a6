use Rattle.std.proofs.Common.{◌≡◌, drop}
use Rattle.tables.specs.Tables.{are_grouped}
use Rattle.table_building.proofs.parts.are_grouped.Given as goal

abbrev pub invariant-loop-interface : goal.invariant-loop-interface
invariant-loop-interface l = are_grouped l.count l.last (drop l.interface-index l.interfaces) ≡ are_grouped l.count 0 l.interfaces
