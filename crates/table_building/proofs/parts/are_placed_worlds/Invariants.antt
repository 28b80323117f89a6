use Rattle.std.proofs.Common.{◌≡◌, drop}
use Rattle.tables.specs.Tables.{are_placed_worlds}
use Rattle.table_building.proofs.parts.are_placed_worlds.Given as goal

abbrev pub invariant-loop-place : goal.invariant-loop-place
invariant-loop-place l = are_placed_worlds l.definitions l.count l.place (drop l.place l.worlds) ≡ are_placed_worlds l.definitions l.count 0 l.worlds
