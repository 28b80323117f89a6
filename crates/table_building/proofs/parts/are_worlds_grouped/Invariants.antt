use Rattle.std.proofs.Common.{◌≡◌, drop}
use Rattle.tables.specs.Tables.{are_worlds_grouped}
use Rattle.table_building.proofs.parts.are_worlds_grouped.Given as goal

abbrev pub invariant-loop-world : goal.invariant-loop-world
invariant-loop-world l = are_worlds_grouped l.count l.last (drop l.world-index l.worlds) ≡ are_worlds_grouped l.count 0 l.worlds
