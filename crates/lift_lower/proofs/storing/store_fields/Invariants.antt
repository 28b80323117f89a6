use Rattle.std.proofs.Common.{◌≡◌, map, drop}
use Rattle.canonical_abi.specs.Values.{HaveTypes}
use Rattle.canonical_abi.specs.Storing.{FieldsStore}
use Rattle.values.specs.Members.{members_fields}
use Rattle.lift_lower.specs.Scripts.{IsBegun}
use Rattle.values.specs.Val.{value_of}
use Rattle.values.proofs.FieldsFromAPlace.{fields_from, fields_end}
use Rattle.lift_lower.proofs.StoredFromParts.{FieldsFrom}
use Rattle.lift_lower.proofs.storing.store_fields.Given as goal

abbrev pub invariant-loop-index : goal.invariant-loop-index
invariant-loop-index g l =
    let fs = members_fields l.table l.members in
    let vs = map value_of l.values in
    IsBegun l.limit g.G.Guest.allocates (FieldsStore fs l.at 0 vs) (FieldsFrom fs l.at vs l.index l.end) (g.G.Guest.memory l.initial.guest) (g.G.Guest.memory l.guest)
    × (fields_end l.end (fields_from l.index fs) ≡ fields_end 0 fs)
    × HaveTypes (drop l.index vs) (fields_from l.index fs)
