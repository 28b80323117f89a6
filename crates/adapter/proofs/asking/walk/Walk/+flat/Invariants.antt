use Rattle.std.proofs.Common.{◌≡◌, ◌+◌, ◌*◌, ◌≤◌, ℕ, List, length, map, drop}
use Rattle.canonical_abi.specs.Types.{depth, fields_depth, AreStandardFields}
use Rattle.canonical_abi.specs.Values.{Value}
use Rattle.canonical_abi.specs.Layout.{field_kinds}
use Rattle.canonical_abi.specs.Reading.{number_of, lifting_fields}
use Rattle.canonical_abi.specs.Requests.{fields_requests}
use Rattle.tables.specs.Closed.{closed_type}
use Rattle.values.specs.Members.{members_fields}
use Rattle.lift_lower.proofs.ReadingStepByStep.{with_front}
use Rattle.values.proofs.FieldsFromAPlace.{fields_from}
use Rattle.adapter.specs.Ahead.{flat_fields_asked}
use Rattle.adapter.specs.Asking.{IsTold, IsFew, total}
use Rattle.adapter.proofs.asking.walk.Walk.+flat.Given as goal

abbrev pub decreases-ask_flat : goal.decreases-ask_flat
decreases-ask_flat l = 2 * depth (closed_type l.self.now.types.now l.ty) + 1

abbrev pub decreases-ask_flat_fields : goal.decreases-ask_flat_fields
decreases-ask_flat_fields l = 2 * fields_depth (members_fields l.self.now.types.now l.members.now) + 2

abbrev pub decreases-ask_flat_variant : goal.decreases-ask_flat_variant
decreases-ask_flat_variant l = 2 * depth (closed_type l.self.now.types.now l.ty)

abbrev pub invariant-ask_flat_fields-loop-index : goal.invariant-ask_flat_fields-loop-index
invariant-ask_flat_fields-loop-index l =
    let fs = members_fields l.self.types.now l.members in
    let ns = map number_of l.flats in
    ((vs : List Value) × (with_front vs (lifting_fields (fields_from l.index fs) l.self.source.now (drop l.used ns)) ≡ lifting_fields fs l.self.source.now ns)
    × (length vs ≡ l.index) × IsTold l.initial.slots l.initial.count l.initial.left (fields_requests fs vs) l.slots l.count l.left
    × (l.used + length (field_kinds (fields_from l.index fs)) ≤ length l.flats))
    × ((d : ℕ) → AreStandardFields fs → fields_depth fs ≤ d → (s : ℕ) × (s + length (field_kinds (fields_from l.index fs)) ≡ length (field_kinds fs)) × IsFew d s l.initial.left l.left l.initial.nodes l.nodes)
    × ((e : ℕ) → l.initial.count ≤ l.initial.nodes + e → l.count ≤ l.nodes + e)
    × (l.left + total (flat_fields_asked fs l.self.source.now ns) ≡ l.initial.left + total (flat_fields_asked (fields_from l.index fs) l.self.source.now (drop l.used ns)))
