use Rattle.std.proofs.Common.{◌≡◌, ◌+◌, ◌-◌, ◌*◌, ◌≤◌, ℕ, List, length}
use Rattle.canonical_abi.specs.Layout.{fields_size}
use Rattle.canonical_abi.specs.Types.{depth, fields_depth, IsStandard, AreStandardFields}
use Rattle.canonical_abi.specs.Values.{Value}
use Rattle.canonical_abi.specs.Reading.{reading, each_at, reading_fields}
use Rattle.canonical_abi.specs.Requests.{requests, each_request, fields_requests}
use Rattle.tables.specs.Closed.{closed_type}
use Rattle.values.specs.Members.{members_fields}
use Rattle.lift_lower.proofs.ReadingStepByStep.{with_front}
use Rattle.values.proofs.FieldsFromAPlace.{fields_from, fields_end}
use Rattle.adapter.specs.Ahead.{each_asked, asked_at, fields_asked}
use Rattle.adapter.specs.Asking.{IsTold, IsFew, total}
use Rattle.adapter.proofs.asking.walk.Walk.+ask.Given as goal

abbrev pub decreases-ask_at : goal.decreases-ask_at
decreases-ask_at l = 2 * depth (closed_type l.self.now.types.now l.ty) + 1

abbrev pub decreases-ask_list : goal.decreases-ask_list
decreases-ask_list l = 2 * depth (closed_type l.self.now.types.now l.element) + 2

abbrev pub decreases-ask_fields : goal.decreases-ask_fields
decreases-ask_fields l = 2 * fields_depth (members_fields l.self.now.types.now l.members.now) + 2

abbrev pub decreases-ask_variant : goal.decreases-ask_variant
decreases-ask_variant l = 2 * depth (closed_type l.self.now.types.now l.ty)

abbrev pub invariant-ask_list-loop-index : goal.invariant-ask_list-loop-index
invariant-ask_list-loop-index l =
    let t = closed_type l.self.types.now l.element in
    let f = reading t l.self.source.now in
    ((vs : List Value) × (with_front vs (each_at f l.step (l.start + l.index * l.step) (l.len - l.index)) ≡ each_at f l.step l.start l.len)
    × (length vs ≡ l.index) × IsTold l.initial.slots l.initial.count l.initial.left (each_request (requests t) vs) l.slots l.count l.left)
    × ((d : ℕ) → IsStandard t → depth t ≤ d → IsFew d (l.index * l.step) l.initial.left l.left l.initial.nodes l.nodes)
    × ((e : ℕ) → l.initial.count ≤ l.initial.nodes + e → l.count ≤ l.nodes + e)
    × (l.left + total (each_asked f (asked_at t l.self.source.now) l.step l.start l.len)
    ≡ l.initial.left + total (each_asked f (asked_at t l.self.source.now) l.step (l.start + l.index * l.step) (l.len - l.index)))

abbrev pub invariant-ask_fields-loop-index : goal.invariant-ask_fields-loop-index
invariant-ask_fields-loop-index l =
    let fs = members_fields l.self.types.now l.members in
    ((vs : List Value) × (with_front vs (reading_fields (fields_from l.index fs) l.self.source.now l.at l.end) ≡ reading_fields fs l.self.source.now l.at 0)
    × (length vs ≡ l.index) × IsTold l.initial.slots l.initial.count l.initial.left (fields_requests fs vs) l.slots l.count l.left
    × (fields_end l.end (fields_from l.index fs) ≡ fields_end 0 fs))
    × ((d : ℕ) → AreStandardFields fs → fields_depth fs ≤ d → (s : ℕ) × (s + fields_size (fields_from l.index fs) ≡ fields_size fs) × IsFew d s l.initial.left l.left l.initial.nodes l.nodes)
    × ((e : ℕ) → l.initial.count ≤ l.initial.nodes + e → l.count ≤ l.nodes + e)
    × (l.left + total (fields_asked fs l.self.source.now l.at 0) ≡ l.initial.left + total (fields_asked (fields_from l.index fs) l.self.source.now l.at l.end))
