-- The result's type stands in the layouts.
use Rattle.std.proofs.Common.{◌≡◌, Some, slice_set, sym, ap, ap₂, ◌∙◌, subst}
use Rattle.std.specs.Option.{option_map}
use Rattle.canonical_abi.specs.Types.{result_fields}
use Rattle.canonical_abi.specs.Layout.{Extent}
use Rattle.tables.specs.Closed.{closed_type, function_type}
use Rattle.adapter.proofs.FunctionsInLayouts.{result-inside, result-is}
use Rattle.values.proofs.TypesExtents.{has-row}
use Rattle.host_calls.specs.Parts.{TellsParts}
use Rattle.host_calls.proofs.FieldsAsLists.{not-empty, one-told}
use Rattle.host_calls.proofs.parts.result_part.Goals as goal

pub size-requires : goal.size-requires
size-requires c =
    let r = c.args.types.now in
    has-row r c.layouts-layouts.result.now c.in-Some.ty c.layouts-layouts.ensures (rw c.in-Some.is at (result-inside r c.args.func c.requires.function c.signature.result.now (rw c.resolve.ensures at c.signature.ensures)))

pub align-requires : goal.align-requires
align-requires c =
    let r = c.args.types.now in
    has-row r c.layouts-layouts.result.now c.in-Some.ty c.layouts-layouts.ensures (rw c.in-Some.is at (result-inside r c.args.func c.requires.function c.signature.result.now (rw c.resolve.ensures at c.signature.ensures)))

pub returns : goal.returns
returns c =
    let r = c.args.types.now in
    let t = closed_type r c.in-Some.ty in
    let is : (function_type r c.args.func).result ≡ Some t = result-is r c.args.func c.requires.function c.signature.result.now (rw c.resolve.ensures at c.signature.ensures) ∙ ap (option_map (closed_type r)) c.in-Some.is in
    let one : _ → _ → Extent = λ size align. record { size = size; align = align } in
    let extent = ap₂ one (c.size.ensures r c.layouts-layouts.ensures) (c.align.ensures r c.layouts-layouts.ensures) in
    let below = not-empty c.args.out.now c.if-is_empty.ensures in
    subst (λ o. TellsParts c.args.out.now (slice_set c.args.out.now 0 (record { size = c.size.result; align = c.align.result; offset = 0 })) 1 (result_fields o)) (sym is)
    (one-told c.args.out.now c.size.result c.align.result t below (sym extent))
