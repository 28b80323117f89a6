use Rattle.std.proofs.Common.{◌≡◌, ◌+◌, length, map, true, false, [], ◌∷◌, ap, ◌∙◌, arith, rules}
use Rattle.std.proofs.lemmas.Bool.{leb-true}
use Rattle.std.proofs.lemmas.Result.{err_from_is_err_and}
use Rattle.canonical_abi.specs.Flat.{Denotes}
use Rattle.canonical_abi.specs.Layout.{size, align, max_flat_params, fits_flat, field_kinds, fields_size}
use Rattle.canonical_abi.specs.Requests.{request, fields_requests, params_requests}
use Rattle.canonical_abi.specs.Types.{record_type, record_fields}
use Rattle.adapter.specs.Ahead.{params_asked, fields_asked, flat_fields_asked}
use Rattle.adapter.specs.Asking.{total}
use Rattle.canonical_abi.specs.Reading.{number_of}
use Rattle.lift_lower.proofs.TextsAndBlocksStand.{block-stands}
use Rattle.canonical_abi.proofs.Calls.VisitsFewNodes.{record-le}
use Rattle.adapter.proofs.asking.VisitedNodesAreFew.{few-within}
use Rattle.tables.specs.Closed.{closed_type}
use Rattle.adapter.proofs.asking.RequestsOfParts.{told-as, told-both}
use Rattle.adapter.proofs.asking.RequestsOfWholeWays.{flat-denotes, flat-untold, spilled-denotes, spilled-untold, flat-asks, spilled-asks, told-ahead, flat-asked, spilled-open, limit-behind}
use Rattle.adapter.proofs.asking.walk.Walk.ask_params.Goals as goal

pub returns-in_err-ask_fields-clause-fault : goal.returns-in_err-ask_fields-clause-fault
returns-in_err-ask_fields-clause-fault c =
    let ts = record_fields (closed_type c.args.self.now.types.now c.args.params) in
    let m = c.args.self.now.source.now in
    let al : c.align_of-align.result ≡ align (record_type ts) = c.align_of-align.ensures.value ∙ ap align c.requires.is_record in
    let sz : c.size_of-size.result ≡ size (record_type ts) = c.size_of-size.ensures.value ∙ ap size c.requires.is_record in
    let stands = rw (al, sz) at c.in-Ok.ensures.ok in
    let fits : fits_flat max_flat_params ts ≡ false = search rules in
    let p = err_from_is_err_and c.from_residual.result c.from_residual.ensures.1 in
    rw (p.1, p.2) (spilled-untold max_flat_params ts m c.args.flats.now c.requires.kinds fits c.low_word-from.result c.low_word-from.ensures (stands.0, omega (arith, stands.1)) (params_requests max_flat_params ts) (size (record_type ts)) _ _
    (λ vs. omega (arith, ap total (spilled-asks max_flat_params ts vs fits))) (omega (arith, sz, c.tell.ensures.told.spent)) c.in_err-ask_fields.field-0.0 c.in_err-ask_fields.ensures.asks)

pub returns-in_default-count_within-clause-told : goal.returns-in_default-count_within-clause-told
returns-in_default-count_within-clause-told c =
    let ts = record_fields (closed_type c.args.self.now.types.now c.args.params) in
    let m = c.args.self.now.source.now in
    let flats = c.args.flats.now in
    let al : c.align_of-align.result ≡ align (record_type ts) = c.align_of-align.ensures.value ∙ ap align c.requires.is_record in
    let sz : c.size_of-size.result ≡ size (record_type ts) = c.size_of-size.ensures.value ∙ ap size c.requires.is_record in
    let stands = rw (al, sz) at c.in-Ok.ensures.ok in
    let fits : fits_flat max_flat_params ts ≡ false = search rules in
    let (vs, e, told) = c.in_ok-ask_fields.ensures.asks in
    let first = rw (al, sz) at c.tell.ensures.told in
    told-ahead (Denotes max_flat_params ts m flats) (params_requests max_flat_params ts) c.args.limit c.args.slots.now c.ask_fields.new.slots c.ask_fields.new.count c.ask_fields.new.left vs
    (spilled-denotes max_flat_params ts m flats c.requires.kinds fits c.low_word-from.result c.low_word-from.ensures (stands.0, omega (arith, stands.1)) vs e)
    (told-as _ _ _ _ _ _ _ _ (spilled-asks max_flat_params ts vs fits) (told-both _ _ _ (request (align (record_type ts)) (size (record_type ts)) ∷ []) (fields_requests ts vs) _ _ _ _ _ _ (omega arith) first told))

pub returns-in_err-ask_flat_fields-clause-fault : goal.returns-in_err-ask_flat_fields-clause-fault
returns-in_err-ask_flat_fields-clause-fault c =
    let ts = record_fields (closed_type c.args.self.now.types.now c.args.params) in
    let fits : fits_flat max_flat_params ts ≡ true = search rules in
    let p = err_from_is_err_and c.from_residual-in_err-ask_flat_fields.result c.from_residual-in_err-ask_flat_fields.ensures.1 in
    rw (p.1, p.2) (flat-untold max_flat_params ts c.args.self.now.source.now c.args.flats.now c.requires.kinds fits (params_requests max_flat_params ts) _ (λ vs. flat-asks max_flat_params ts vs fits)
    c.in_err-ask_flat_fields.field-0.0 c.in_err-ask_flat_fields.ensures.asks)

pub returns-clause-told : goal.returns-clause-told
returns-clause-told c =
    let ts = record_fields (closed_type c.args.self.now.types.now c.args.params) in
    let m = c.args.self.now.source.now in
    let flats = c.args.flats.now in
    let fits : fits_flat max_flat_params ts ≡ true = search rules in
    let (vs, e, told) = c.in_ok-ask_flat_fields.ensures.asks in
    told-ahead (Denotes max_flat_params ts m flats) (params_requests max_flat_params ts) c.args.limit c.args.slots.now c.ask_flat_fields.new.slots c.ask_flat_fields.new.count c.ask_flat_fields.new.left vs
    (flat-denotes max_flat_params ts m flats c.requires.kinds fits vs e) (told-as _ _ _ _ _ _ _ _ (flat-asks max_flat_params ts vs fits) told)

pub returns-in_err-ask_fields-clause-few : goal.returns-in_err-ask_fields-clause-few
returns-in_err-ask_fields-clause-few c = λ d h deep.
    let ts = record_fields (closed_type c.args.self.now.types.now c.args.params) in
    let sz : c.size_of-size.result ≡ size (record_type ts) = c.size_of-size.ensures.value ∙ ap size c.requires.is_record in
    few-within d (fields_size ts) _ _ _ (c.args.limit + 16) (omega (arith, sz, record-le ts, c.tell.ensures.told.spent)) (c.ask_fields.ensures.few d h deep)

pub returns-in_default-count_within-clause-few : goal.returns-in_default-count_within-clause-few
returns-in_default-count_within-clause-few c = λ d h deep.
    let ts = record_fields (closed_type c.args.self.now.types.now c.args.params) in
    let sz : c.size_of-size.result ≡ size (record_type ts) = c.size_of-size.ensures.value ∙ ap size c.requires.is_record in
    few-within d (fields_size ts) _ _ _ (c.args.limit + 16) (omega (arith, sz, record-le ts, c.tell.ensures.told.spent)) (c.ask_fields.ensures.few d h deep)

pub returns-in_default-count_within-clause-each : goal.returns-in_default-count_within-clause-each
returns-in_default-count_within-clause-each c = c.ask_fields.ensures.each 1 (omega (arith, c.tell.ensures.counted))

pub returns-in_err-ask_flat_fields-clause-few : goal.returns-in_err-ask_flat_fields-clause-few
returns-in_err-ask_flat_fields-clause-few c = λ d h deep.
    let ts = record_fields (closed_type c.args.self.now.types.now c.args.params) in
    let fits : fits_flat max_flat_params ts ≡ true = search rules in
    few-within d (length (field_kinds ts)) _ _ _ (c.args.limit + 16) (omega (arith, leb-true (length (field_kinds ts)) 16 fits)) (c.ask_flat_fields.ensures.few d h deep)

pub returns-clause-few : goal.returns-clause-few
returns-clause-few c = λ d h deep.
    let ts = record_fields (closed_type c.args.self.now.types.now c.args.params) in
    let fits : fits_flat max_flat_params ts ≡ true = search rules in
    few-within d (length (field_kinds ts)) _ _ _ (c.args.limit + 16) (omega (arith, leb-true (length (field_kinds ts)) 16 fits)) (c.ask_flat_fields.ensures.few d h deep)

-- ---- the limit

pub returns-in_err-ask_fields-clause-limit : goal.returns-in_err-ask_fields-clause-limit
returns-in_err-ask_fields-clause-limit c =
    let ts = record_fields (closed_type c.args.self.now.types.now c.args.params) in
    let m = c.args.self.now.source.now in
    let al : c.align_of-align.result ≡ align (record_type ts) = c.align_of-align.ensures.value ∙ ap align c.requires.is_record in
    let sz : c.size_of-size.result ≡ size (record_type ts) = c.size_of-size.ensures.value ∙ ap size c.requires.is_record in
    let stands = rw (al, sz) at c.in-Ok.ensures.ok in
    let fits : fits_flat max_flat_params ts ≡ false = search rules in
    let p = err_from_is_err_and c.from_residual.result c.from_residual.ensures.1 in
    let own = request (align (record_type ts)) (size (record_type ts)) ∷ [] in
    let opened = spilled-open max_flat_params ts m c.args.flats.now own fits c.low_word-from.result c.low_word-from.ensures (block-stands m c.low_word-from.result (align (record_type ts)) (size (record_type ts)) stands.0 (omega (arith, stands.1))) in
    rw (p.1, p.2) (limit-behind (size (record_type ts)) (fields_asked ts m c.low_word-from.result 0) (params_asked ts m c.args.flats.now) c.tell.new.left c.args.limit (omega (arith, ap total opened)) (omega (arith, sz, c.tell.ensures.told.spent))
    c.in_err-ask_fields.field-0.0 c.in_err-ask_fields.ensures.limit)

pub returns-in_default-count_within-clause-limit : goal.returns-in_default-count_within-clause-limit
returns-in_default-count_within-clause-limit c =
    let ts = record_fields (closed_type c.args.self.now.types.now c.args.params) in
    let m = c.args.self.now.source.now in
    let al : c.align_of-align.result ≡ align (record_type ts) = c.align_of-align.ensures.value ∙ ap align c.requires.is_record in
    let sz : c.size_of-size.result ≡ size (record_type ts) = c.size_of-size.ensures.value ∙ ap size c.requires.is_record in
    let stands = rw (al, sz) at c.in-Ok.ensures.ok in
    let fits : fits_flat max_flat_params ts ≡ false = search rules in
    let own = request (align (record_type ts)) (size (record_type ts)) ∷ [] in
    let opened = spilled-open max_flat_params ts m c.args.flats.now own fits c.low_word-from.result c.low_word-from.ensures (block-stands m c.low_word-from.result (align (record_type ts)) (size (record_type ts)) stands.0 (omega (arith, stands.1))) in
    omega (arith, ap total opened, sz, c.tell.ensures.told.spent, c.in_ok-ask_fields.ensures.limit)

pub returns-in_err-ask_flat_fields-clause-limit : goal.returns-in_err-ask_flat_fields-clause-limit
returns-in_err-ask_flat_fields-clause-limit c =
    let ts = record_fields (closed_type c.args.self.now.types.now c.args.params) in
    let m = c.args.self.now.source.now in
    let fits : fits_flat max_flat_params ts ≡ true = search rules in
    let p = err_from_is_err_and c.from_residual-in_err-ask_flat_fields.result c.from_residual-in_err-ask_flat_fields.ensures.1 in
    rw (p.1, p.2) (limit-behind 0 (flat_fields_asked ts m (map number_of c.args.flats.now)) (params_asked ts m c.args.flats.now) c.args.limit c.args.limit
    (omega (arith, ap total (flat-asked max_flat_params ts m c.args.flats.now (request (align (record_type ts)) (size (record_type ts)) ∷ []) fits))) (omega arith)
    c.in_err-ask_flat_fields.field-0.0 c.in_err-ask_flat_fields.ensures.limit)

pub returns-clause-limit : goal.returns-clause-limit
returns-clause-limit c =
    let ts = record_fields (closed_type c.args.self.now.types.now c.args.params) in
    let fits : fits_flat max_flat_params ts ≡ true = search rules in
    omega (arith, ap total (flat-asked max_flat_params ts c.args.self.now.source.now c.args.flats.now (request (align (record_type ts)) (size (record_type ts)) ∷ []) fits), c.in_ok-ask_flat_fields.ensures.limit)
