use Rattle.std.proofs.Common.{◌+◌, ◌*◌, ◌≤◌, List, ◌∷◌, map, take}
use Rattle.canonical_abi.specs.Labelled.{closed, closed_members, closed_fields}
use Rattle.canonical_abi.specs.Layout.{size}
use Rattle.canonical_abi.specs.Memory.{Holds, EachHolds, FieldsHold}
use Rattle.canonical_abi.specs.Values.{Value}
use Rattle.tables.specs.Labelled.{labelled_type, labelled_types, labelled_members, labelled_fields}
use Rattle.value_json.proofs.RanksOfTypes.{rank}
use Rattle.value_text.specs.Function.{json_of, members_json}
use Rattle.value_text.specs.Puts.{Puts}
use Rattle.value_text.specs.Texts.{items_front, members_front}
use Rattle.value_text.proofs.FieldsInOrder.{members_in}
use Rattle.value_text.proofs.Ranks.{payload_rank}
use Rattle.value_text.proofs.held.Held.+held.Given as goal

abbrev pub decreases-write_at : goal.decreases-write_at
decreases-write_at l = 8 * rank l.ty

abbrev pub decreases-write_item : goal.decreases-write_item
decreases-write_item l = 8 * rank l.ty + 1

abbrev pub decreases-write_field : goal.decreases-write_field
decreases-write_field l = 8 * rank l.field.now.ty + 1

abbrev pub decreases-write_payload : goal.decreases-write_payload
decreases-write_payload l = 8 * rank l.ty + 1

abbrev pub decreases-write_case : goal.decreases-write_case
decreases-write_case l = 8 * payload_rank l.payload + 2

abbrev pub decreases-write_list : goal.decreases-write_list
decreases-write_list l = 8 * rank l.element + 3

abbrev pub decreases-write_elements : goal.decreases-write_elements
decreases-write_elements l = 8 * rank l.element + 2

abbrev pub decreases-write_tuple : goal.decreases-write_tuple
decreases-write_tuple l = 8 * l.id.0 + 3

abbrev pub decreases-write_record : goal.decreases-write_record
decreases-write_record l = 8 * l.id.0 + 3

abbrev pub decreases-write_variant : goal.decreases-write_variant
decreases-write_variant l = 8 * l.id.0 + 3

abbrev pub decreases-write_option : goal.decreases-write_option
decreases-write_option l = 8 * l.id.0 + 3

abbrev pub decreases-write_result : goal.decreases-write_result
decreases-write_result l = 8 * l.id.0 + 3

abbrev pub decreases-write_kind : goal.decreases-write_kind
decreases-write_kind l = 8 * l.id.0 + 4

abbrev pub invariant-write_elements-loop-index : goal.invariant-write_elements-loop-index
invariant-write_elements-loop-index l =
    let t = labelled_type l.self.types.now l.element in
    ((vs : List Value) → EachHolds (Holds (closed t) l.self.memory.now) (size (closed t)) l.start l.count vs
    → Puts (91 ∷ items_front 0 (take l.index (map (json_of t) vs))) l.fn.room l.fn.at l.room l.end) × (l.end ≤ l.self.limit)

abbrev pub invariant-write_tuple-loop-index : goal.invariant-write_tuple-loop-index
invariant-write_tuple-loop-index l =
    let ts = labelled_members (labelled_types l.self.types.now) l.types in
    ((vs : List Value) → FieldsHold (closed_members ts) l.self.memory.now l.from 0 vs
    → Puts (91 ∷ items_front 0 (take l.index (members_json ts vs))) l.fn.room l.fn.at l.room l.end) × (l.end ≤ l.self.limit)

abbrev pub invariant-write_record-loop-index : goal.invariant-write_record-loop-index
invariant-write_record-loop-index l =
    let rows = labelled_types l.self.types.now in
    ((vs : List Value) → FieldsHold (closed_fields (labelled_fields rows l.fields)) l.self.memory.now l.from 0 vs
    → Puts (123 ∷ members_front 0 (members_in rows l.fields vs (take l.index l.order))) l.fn.room l.fn.at l.room l.end) × (l.end ≤ l.self.limit)
