use Rattle.std.proofs.Common.{◌≡◌, true, take}
use Rattle.std.specs.List.{list_all}
use Rattle.tables.specs.Tables.{option_all, is_type_before}
use Rattle.table_building.proofs.parts.are_cases_earlier.Given as goal

abbrev pub invariant-loop-case : goal.invariant-loop-case
invariant-loop-case l = list_all (λ c. option_all (is_type_before l.definitions l.place) c.ty) (take l.case-index l.cases) ≡ true
