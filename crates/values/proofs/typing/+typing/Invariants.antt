use Rattle.std.proofs.Common.{◌↔◌, map, take, drop}
use Rattle.std.specs.List.{AllByRecursion}
use Rattle.canonical_abi.specs.Values.{HasType, HaveTypes}
use Rattle.tables.specs.Closed.{closed_type}
use Rattle.values.specs.Members.{members_fields}
use Rattle.values.specs.Val.{value_of}
use Rattle.values.proofs.FieldsFromAPlace.{fields_from}
use Rattle.values.proofs.typing.+typing.Given as goal

abbrev pub invariant-are_of-loop-item : goal.invariant-are_of-loop-item
invariant-are_of-loop-item l = AllByRecursion (λ w. HasType w (closed_type l.table l.element)) (take l.item-index (map value_of l.items))

abbrev pub invariant-members_have_types-loop-index : goal.invariant-members_have_types-loop-index
invariant-members_have_types-loop-index l =
    let fs = members_fields l.table l.members in
    let vs = map value_of l.values in
    HaveTypes vs fs ↔ HaveTypes (drop l.index vs) (fields_from l.index fs)
