-- A place below the number of fields has one.
use Rattle.std.proofs.Common.{Some, sym, ap, ap₂, ◌∙◌}
use Rattle.std.specs.Option.{option_map}
use Rattle.canonical_abi.specs.Types.{record_fields}
use Rattle.canonical_abi.specs.Layout.{Extent, extent_of, field_extents}
use Rattle.tables.specs.Closed.{closed_type}
use Rattle.host_calls.proofs.FieldsAsLists.{extents-at, stands}
use Rattle.host_calls.proofs.parts.part_at.Goals as goal

pub unreachable-requires : goal.unreachable-requires
unreachable-requires c =
    let r = c.args.types.now in
    let fs = record_fields (closed_type r c.args.row) in
    stands (field_extents fs) c.args.place (extents-at fs c.args.place ∙ ap (option_map extent_of) (c.in-None.ensures.told r c.layouts-layouts.ensures)) c.requires.place

pub returns-clause-extent : goal.returns-clause-extent
returns-clause-extent c =
    let r = c.args.types.now in
    let fs = record_fields (closed_type r c.args.row) in
    let told = c.in-Some.ensures.told r c.layouts-layouts.ensures in
    let one : _ → _ → Extent = λ size align. record { size = size; align = align } in
    extents-at fs c.args.place ∙ ap (option_map extent_of) told.0
    ∙ sym (ap₂ (λ size align. Some (one size align)) (c.size.ensures r c.layouts-layouts.ensures) (c.align.ensures r c.layouts-layouts.ensures))
