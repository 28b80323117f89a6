use Rattle.std.proofs.Common.{◌≡◌, true, take}
use Rattle.std.specs.List.{list_all}
use Rattle.tables.specs.Tables.{is_type_before}
use Rattle.table_building.proofs.parts.are_members_earlier.Given as goal

abbrev pub invariant-loop-member : goal.invariant-loop-member
invariant-loop-member g l = list_all (λ m. is_type_before l.definitions l.place (g.M.Member.type_of m)) (take l.member-index l.members) ≡ true
