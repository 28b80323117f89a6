use Rattle.std.proofs.Common.{◌≡◌, ◌+◌, ◌*◌, map}
use Rattle.serde_json.specs.View.{view}
use Rattle.values.specs.Val.{value_of}
use Rattle.tables.specs.Labelled.{labelled_type, labelled_types}
use Rattle.value_json.specs.Json.{Json}
use Rattle.value_json.proofs.ValuesMadeOneByOne.{Continues, ItemStands, MemberStands}
use Rattle.value_json.proofs.MembersBesideFields.{FieldStands}
use Rattle.serde_json.specs.Data.{Members, object}
use Rattle.value_json.proofs.CasesTriedOneByOne.{LeavesRest}
use Rattle.value_json.proofs.RanksOfTypes.{rank}
use Rattle.value_json.proofs.reading.Reader.+reading.Given as goal

abbrev pub decreases-read_case : goal.decreases-read_case
decreases-read_case l = 4 * l._place + 1

abbrev pub decreases-read_cases : goal.decreases-read_cases
decreases-read_cases l = 4 * l.place + 2

abbrev pub decreases-read_items : goal.decreases-read_items
decreases-read_items l = 4 * rank l.element + 1

abbrev pub decreases-read_kind : goal.decreases-read_kind
decreases-read_kind l = 4 * l.place + 3

abbrev pub decreases-read_members : goal.decreases-read_members
decreases-read_members l = 4 * l._place + 1

abbrev pub decreases-read_value : goal.decreases-read_value
decreases-read_value l = 4 * rank l.ty

abbrev pub invariant-read_cases-loop-i : goal.invariant-read_cases-loop-i
invariant-read_cases-loop-i l = LeavesRest (labelled_types l.self.resolve.now) l.cases l.i (view l.json)

abbrev pub invariant-read_items-loop-i : goal.invariant-read_items-loop-i
invariant-read_items-loop-i l = Continues (ItemStands (Json (labelled_type l.self.resolve.now l.element))) l.items l.i (map value_of l.values.items)

abbrev pub invariant-read_members-loop-i : goal.invariant-read_members-loop-i
invariant-read_members-loop-i l = Continues (MemberStands (labelled_types l.self.resolve.now) (map view l.items)) l.types l.i (map value_of l.values.items)

abbrev pub decreases-read_fields : goal.decreases-read_fields
decreases-read_fields l = 4 * l._place + 1

abbrev pub invariant-read_fields-loop-i : goal.invariant-read_fields-loop-i
invariant-read_fields-loop-i l =
    (ms : Members) → view l.json ≡ object ms → Continues (FieldStands (labelled_types l.self.resolve.now) ms) l.fields l.i (map value_of l.values.items)
