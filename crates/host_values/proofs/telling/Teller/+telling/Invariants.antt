use Rattle.std.proofs.Common.{◌≡◌, ◌+◌, ◌*◌, List, ◌++◌, map, drop}
use Rattle.canonical_abi.specs.Requests.{requests, each_request, fields_requests}
use Rattle.canonical_abi.specs.Trace
use Rattle.canonical_abi.specs.Types.{depth, fields_depth, list_type}
use Rattle.canonical_abi.specs.Values.{HaveTypes, values_of, list_value}
use Rattle.tables.specs.Closed.{closed_type}
use Rattle.values.specs.Members.{members_fields}
use Rattle.values.specs.Val.{value_of}
use Rattle.values.proofs.FieldsFromAPlace.{fields_from}
use Rattle.host_values.specs.Requests.{AreToldBehind}
use Rattle.host_values.proofs.telling.Teller.+telling.Given as goal

abbrev pub decreases-tell_value : goal.decreases-tell_value
decreases-tell_value l = 3 * depth (closed_type l.self.now.types.now l.ty) + 1

abbrev pub decreases-tell_list : goal.decreases-tell_list
decreases-tell_list l = 3 * depth (closed_type l.self.now.types.now l.element) + 2

abbrev pub decreases-tell_fields : goal.decreases-tell_fields
decreases-tell_fields l = 3 * fields_depth (members_fields l.self.now.types.now l.members.now) + 2

abbrev pub decreases-tell_payload : goal.decreases-tell_payload
decreases-tell_payload l = 3 * depth (closed_type l.self.now.types.now l.ty)

abbrev pub invariant-tell_list-loop-index : goal.invariant-tell_list-loop-index
invariant-tell_list-loop-index l =
    let t = closed_type l.self.types.now l.element in
    let vs = map value_of l.items in
    (done : List Trace.Request) × (requests (list_type t) (list_value (values_of vs)) ≡ done ++ each_request (requests t) (drop l.index vs))
    × AreToldBehind l.fn.told.items done l.told.items

abbrev pub invariant-tell_fields-loop-index : goal.invariant-tell_fields-loop-index
invariant-tell_fields-loop-index l =
    let fs = members_fields l.self.types.now l.members in
    let vs = map value_of l.values in
    (done : List Trace.Request) × (fields_requests fs vs ≡ done ++ fields_requests (fields_from l.index fs) (drop l.index vs))
    × AreToldBehind l.fn.told.items done l.told.items × HaveTypes (drop l.index vs) (fields_from l.index fs)
