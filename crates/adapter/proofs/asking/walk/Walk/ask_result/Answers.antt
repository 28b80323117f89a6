use Rattle.std.proofs.Common.{◌+◌, [], length, map, refl, ap, arith}
use Rattle.std.proofs.lemmas.Bool.{leb-true}
use Rattle.std.proofs.lemmas.Result.{err_from_is_err_and}
use Rattle.canonical_abi.specs.Flat.{Denotes}
use Rattle.canonical_abi.specs.Layout.{max_flat_results, align, size, field_kinds, fields_size}
use Rattle.canonical_abi.specs.Requests.{fields_requests}
use Rattle.canonical_abi.specs.Types.{record_type}
use Rattle.adapter.specs.Ahead.{result_asked, fields_asked, flat_fields_asked}
use Rattle.adapter.specs.Asking.{total}
use Rattle.canonical_abi.specs.Reading.{number_of}
use Rattle.lift_lower.proofs.TextsAndBlocksStand.{block-stands}
use Rattle.values.specs.Members.{fields_of_types}
use Rattle.values.proofs.FieldsFromAPlace.{count-types}
use Rattle.values.proofs.TypesExtents.{align-pos}
use Rattle.canonical_abi.proofs.Calls.VisitsFewNodes.{record-le}
use Rattle.adapter.proofs.asking.VisitedNodesAreFew.{few-within}
use Rattle.adapter.proofs.asking.RequestsOfWholeWays.{flat-denotes, flat-untold, spilled-denotes, spilled-untold, told-ahead, flat-asked, spilled-open, limit-behind}
use Rattle.adapter.proofs.asking.walk.Walk.ask_result.Goals as goal

pub test_block-requires-clause-aligned : goal.test_block-requires-clause-aligned
test_block-requires-clause-aligned c = rw c.record_extent-size.ensures.align (align-pos (record_type (fields_of_types c.args.self.now.types.now c.args.types.now)))

pub ask_fields-requires-clause-counted : goal.ask_fields-requires-clause-counted
ask_fields-requires-clause-counted c = count-types c.args.self.now.types.now c.args.types.now

pub returns-in_err-ask_fields-clause-fault : goal.returns-in_err-ask_fields-clause-fault
returns-in_err-ask_fields-clause-fault c =
    let ts = fields_of_types c.args.self.now.types.now c.args.types.now in
    let stands = rw (c.record_extent-size.ensures.align, c.record_extent-size.ensures.size) at c.in-Ok.ensures.ok in
    let p = err_from_is_err_and c.from_residual.result c.from_residual.ensures.1 in
    rw (p.1, p.2) (spilled-untold max_flat_results ts c.args.self.now.source.now c.args.flats.now c.requires.kinds c.in_default.ensures.spilled c.low_word-from.result c.low_word-from.ensures (stands.0, omega (arith, stands.1))
    (fields_requests ts) 0 _ _ (λ vs. omega arith) (omega arith) c.in_err-ask_fields.field-0.0 c.in_err-ask_fields.ensures.asks)

pub returns-in_default-clause-told : goal.returns-in_default-clause-told
returns-in_default-clause-told c =
    let ts = fields_of_types c.args.self.now.types.now c.args.types.now in
    let m = c.args.self.now.source.now in
    let flats = c.args.flats.now in
    let stands = rw (c.record_extent-size.ensures.align, c.record_extent-size.ensures.size) at c.in-Ok.ensures.ok in
    let (vs, e, told) = c.in_ok-ask_fields.ensures.asks in
    told-ahead (Denotes max_flat_results ts m flats) (fields_requests ts) c.args.limit c.args.slots.now c.ask_fields.new.slots c.ask_fields.new.count c.ask_fields.new.left vs
    (spilled-denotes max_flat_results ts m flats c.requires.kinds c.in_default.ensures.spilled c.low_word-from.result c.low_word-from.ensures (stands.0, omega (arith, stands.1)) vs e) told

pub ask_flat_fields-requires-clause-counted : goal.ask_flat_fields-requires-clause-counted
ask_flat_fields-requires-clause-counted c = count-types c.args.self.now.types.now c.args.types.now

pub returns-in_err-ask_flat_fields-clause-fault : goal.returns-in_err-ask_flat_fields-clause-fault
returns-in_err-ask_flat_fields-clause-fault c =
    let ts = fields_of_types c.args.self.now.types.now c.args.types.now in
    let p = err_from_is_err_and c.from_residual-in_err-ask_flat_fields.result c.from_residual-in_err-ask_flat_fields.ensures.1 in
    rw (p.1, p.2) (flat-untold max_flat_results ts c.args.self.now.source.now c.args.flats.now c.requires.kinds c.in-Some.ensures.flat (fields_requests ts) _ (λ vs. refl) c.in_err-ask_flat_fields.field-0.0 c.in_err-ask_flat_fields.ensures.asks)

pub returns-clause-told : goal.returns-clause-told
returns-clause-told c =
    let ts = fields_of_types c.args.self.now.types.now c.args.types.now in
    let m = c.args.self.now.source.now in
    let flats = c.args.flats.now in
    let (vs, e, told) = c.in_ok-ask_flat_fields.ensures.asks in
    told-ahead (Denotes max_flat_results ts m flats) (fields_requests ts) c.args.limit c.args.slots.now c.ask_flat_fields.new.slots c.ask_flat_fields.new.count c.ask_flat_fields.new.left vs
    (flat-denotes max_flat_results ts m flats c.requires.kinds c.in-Some.ensures.flat vs e) told

pub returns-in_err-ask_fields-clause-few : goal.returns-in_err-ask_fields-clause-few
returns-in_err-ask_fields-clause-few c = λ d h deep.
    let ts = fields_of_types c.args.self.now.types.now c.args.types.now in
    few-within d (fields_size ts) _ _ _ (c.args.limit + size (record_type ts) + 16) (omega (arith, record-le ts)) (c.ask_fields.ensures.few d h deep)

pub returns-in_default-clause-few : goal.returns-in_default-clause-few
returns-in_default-clause-few c = λ d h deep.
    let ts = fields_of_types c.args.self.now.types.now c.args.types.now in
    few-within d (fields_size ts) _ _ _ (c.args.limit + size (record_type ts) + 16) (omega (arith, record-le ts)) (c.ask_fields.ensures.few d h deep)

pub returns-in_err-ask_flat_fields-clause-few : goal.returns-in_err-ask_flat_fields-clause-few
returns-in_err-ask_flat_fields-clause-few c = λ d h deep.
    let ts = fields_of_types c.args.self.now.types.now c.args.types.now in
    few-within d (length (field_kinds ts)) _ _ _ (c.args.limit + size (record_type ts) + 16) (omega (arith, leb-true (length (field_kinds ts)) 1 c.in-Some.ensures.flat)) (c.ask_flat_fields.ensures.few d h deep)

pub returns-clause-few : goal.returns-clause-few
returns-clause-few c = λ d h deep.
    let ts = fields_of_types c.args.self.now.types.now c.args.types.now in
    few-within d (length (field_kinds ts)) _ _ _ (c.args.limit + size (record_type ts) + 16) (omega (arith, leb-true (length (field_kinds ts)) 1 c.in-Some.ensures.flat)) (c.ask_flat_fields.ensures.few d h deep)

-- ---- the limit

pub returns-in_err-ask_fields-clause-limit : goal.returns-in_err-ask_fields-clause-limit
returns-in_err-ask_fields-clause-limit c =
    let ts = fields_of_types c.args.self.now.types.now c.args.types.now in
    let m = c.args.self.now.source.now in
    let stands = rw (c.record_extent-size.ensures.align, c.record_extent-size.ensures.size) at c.in-Ok.ensures.ok in
    let p = err_from_is_err_and c.from_residual.result c.from_residual.ensures.1 in
    let opened = spilled-open max_flat_results ts m c.args.flats.now [] c.in_default.ensures.spilled c.low_word-from.result c.low_word-from.ensures (block-stands m c.low_word-from.result (align (record_type ts)) (size (record_type ts)) stands.0 (omega (arith, stands.1))) in
    rw (p.1, p.2) (limit-behind 0 (fields_asked ts m c.low_word-from.result 0) (result_asked ts m c.args.flats.now) c.args.limit c.args.limit (omega (arith, ap total opened)) (omega arith)
    c.in_err-ask_fields.field-0.0 c.in_err-ask_fields.ensures.limit)

pub returns-in_default-clause-limit : goal.returns-in_default-clause-limit
returns-in_default-clause-limit c =
    let ts = fields_of_types c.args.self.now.types.now c.args.types.now in
    let m = c.args.self.now.source.now in
    let stands = rw (c.record_extent-size.ensures.align, c.record_extent-size.ensures.size) at c.in-Ok.ensures.ok in
    let opened = spilled-open max_flat_results ts m c.args.flats.now [] c.in_default.ensures.spilled c.low_word-from.result c.low_word-from.ensures (block-stands m c.low_word-from.result (align (record_type ts)) (size (record_type ts)) stands.0 (omega (arith, stands.1))) in
    omega (arith, ap total opened, c.in_ok-ask_fields.ensures.limit)

pub returns-in_err-ask_flat_fields-clause-limit : goal.returns-in_err-ask_flat_fields-clause-limit
returns-in_err-ask_flat_fields-clause-limit c =
    let ts = fields_of_types c.args.self.now.types.now c.args.types.now in
    let m = c.args.self.now.source.now in
    let p = err_from_is_err_and c.from_residual-in_err-ask_flat_fields.result c.from_residual-in_err-ask_flat_fields.ensures.1 in
    rw (p.1, p.2) (limit-behind 0 (flat_fields_asked ts m (map number_of c.args.flats.now)) (result_asked ts m c.args.flats.now) c.args.limit c.args.limit
    (omega (arith, ap total (flat-asked max_flat_results ts m c.args.flats.now [] c.in-Some.ensures.flat))) (omega arith) c.in_err-ask_flat_fields.field-0.0 c.in_err-ask_flat_fields.ensures.limit)

pub returns-clause-limit : goal.returns-clause-limit
returns-clause-limit c =
    let ts = fields_of_types c.args.self.now.types.now c.args.types.now in
    omega (arith, ap total (flat-asked max_flat_results ts c.args.self.now.source.now c.args.flats.now [] c.in-Some.ensures.flat), c.in_ok-ask_flat_fields.ensures.limit)
