use Rattle.std.proofs.Common.{◌+◌, ◌*◌, map, take, drop}
use Rattle.serde_json.specs.View.{view, members_view}
use Rattle.values.specs.Val.{value_of}
use Rattle.value_json.specs.Json.{Json, EachJson, MembersJson, FieldsJson}
use Rattle.tables.specs.Labelled.{labelled_type, labelled_types, labelled_members, labelled_fields}
use Rattle.value_json.proofs.RanksOfTypes.{rank}
use Rattle.value_json.proofs.writing.Writer.+writing.Given as goal

abbrev pub decreases-write_case : goal.decreases-write_case
decreases-write_case l = 4 * l._place + 1

abbrev pub decreases-write_fields : goal.decreases-write_fields
decreases-write_fields l = 4 * l._place + 1

abbrev pub decreases-write_items : goal.decreases-write_items
decreases-write_items l = 4 * rank l.element + 1

abbrev pub decreases-write_kind : goal.decreases-write_kind
decreases-write_kind l = 4 * l.place + 3

abbrev pub decreases-write_members : goal.decreases-write_members
decreases-write_members l = 4 * l._place + 1

abbrev pub decreases-write_value : goal.decreases-write_value
decreases-write_value l = 4 * rank l.ty

abbrev pub decreases-write_variant : goal.decreases-write_variant
decreases-write_variant l = 4 * l.place + 2

abbrev pub invariant-write_fields-loop-i : goal.invariant-write_fields-loop-i
invariant-write_fields-loop-i l =
    FieldsJson (labelled_fields (labelled_types l.self.resolve.now) (drop l.i l.fields)) (map value_of (drop l.i l.values)) (members_view l.members.entries)

abbrev pub invariant-write_items-loop-value : goal.invariant-write_items-loop-value
invariant-write_items-loop-value l =
    EachJson (Json (labelled_type l.self.resolve.now l.element)) (map value_of (take l.value-index l.values)) (map view l.items.items)

abbrev pub invariant-write_members-loop-i : goal.invariant-write_members-loop-i
invariant-write_members-loop-i l =
    MembersJson (labelled_members (labelled_types l.self.resolve.now) (take l.i l.types)) (map value_of (take l.i l.values)) (map view l.items.items)
