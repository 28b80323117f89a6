use Rattle.std.proofs.Common.{◌+◌, ◌*◌, map, drop}
use Rattle.canonical_abi.specs.Types.{depth, fields_depth, record_fields}
use Rattle.canonical_abi.specs.Values.{HaveTypes}
use Rattle.canonical_abi.specs.Layout.{size}
use Rattle.canonical_abi.specs.Storing.{Stores, EachStores, FieldsStore}
use Rattle.tables.specs.Closed.{closed_type}
use Rattle.lift_lower.specs.Scripts.{IsBegun}
use Rattle.values.specs.Val.{value_of}
use Rattle.values.proofs.FieldsFromAPlace.{fields_from}
use Rattle.lift_lower.proofs.PlacesOfFields.{end_before}
use Rattle.lift_lower.proofs.StoredFromParts.{ItemsFrom, FieldsFrom}
use Rattle.lift_lower.proofs.storing.+store.Given as goal

abbrev pub decreases-store_at : goal.decreases-store_at
decreases-store_at g l = 4 * depth (closed_type l.table.now l.ty) + 2

abbrev pub decreases-store_compound : goal.decreases-store_compound
decreases-store_compound g l = 4 * depth (closed_type l.table.now l.ty) + 1

abbrev pub decreases-store_list : goal.decreases-store_list
decreases-store_list g l = 4 * depth (closed_type l.table.now l.element) + 4

abbrev pub decreases-store_items : goal.decreases-store_items
decreases-store_items g l = 4 * depth (closed_type l.table.now l.element) + 3

abbrev pub decreases-store_record : goal.decreases-store_record
decreases-store_record g l = 4 * fields_depth (record_fields (closed_type l.table.now l.ty)) + 3

abbrev pub decreases-store_variant : goal.decreases-store_variant
decreases-store_variant g l = 4 * depth (closed_type l.table.now l.ty)

abbrev pub invariant-store_items-loop-index : goal.invariant-store_items-loop-index
invariant-store_items-loop-index g l =
    let t = closed_type l.table l.element in
    let vs = map value_of l.items in
    IsBegun l.limit g.G.Guest.allocates (EachStores (Stores t) (size t) l.start vs) (ItemsFrom t l.start vs l.index) (g.G.Guest.memory l.initial.guest) (g.G.Guest.memory l.guest)

abbrev pub invariant-store_record-loop-index : goal.invariant-store_record-loop-index
invariant-store_record-loop-index g l =
    let fs = record_fields (closed_type l.table l.ty) in
    let vs = map value_of l.values in
    IsBegun l.limit g.G.Guest.allocates (FieldsStore fs l.at 0 vs) (FieldsFrom fs l.at vs l.index (end_before 0 l.index fs)) (g.G.Guest.memory l.initial.guest) (g.G.Guest.memory l.guest)
    × HaveTypes (drop l.index vs) (fields_from l.index fs)
