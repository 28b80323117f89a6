use Rattle.std.proofs.Common.{◌≡◌, map}
use Rattle.canonical_abi.specs.Reading.{reading_fields}
use Rattle.values.specs.Members.{members_fields}
use Rattle.values.specs.Val.{value_of}
use Rattle.lift_lower.proofs.ReadingStepByStep.{with_front}
use Rattle.values.proofs.FieldsFromAPlace.{fields_from, fields_end}
use Rattle.lift_lower.proofs.loading.load_fields.Given as goal

abbrev pub invariant-loop-index : goal.invariant-loop-index
invariant-loop-index l =
    let fs = members_fields l.table l.members in
    (with_front (map value_of l.fields.items) (reading_fields (fields_from l.index fs) l.memory l.at l.end) ≡ reading_fields fs l.memory l.at 0)
    × (fields_end l.end (fields_from l.index fs) ≡ fields_end 0 fs)
