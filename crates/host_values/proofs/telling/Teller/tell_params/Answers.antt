use Rattle.std.proofs.Common.{◌≡◌, false, [], ◌∷◌, map, ap, ◌∙◌, subst, rules}
use Rattle.std.proofs.lemmas.Result.{err_from_is_err_and}
use Rattle.canonical_abi.specs.Layout.{size, align, max_flat_params, fits_flat}
use Rattle.canonical_abi.specs.Requests.{request, fields_requests}
use Rattle.canonical_abi.specs.Types.{record_type, record_fields}
use Rattle.tables.specs.Closed.{closed_type}
use Rattle.values.specs.Val.{value_of}
use Rattle.host_values.proofs.RequestsOfValues.{spilled-stops, spilled-told, spilled-is}
use Rattle.host_values.proofs.telling.Teller.tell_params.Goals as goal

pub returns-in_err-tell : goal.returns-in_err-tell
returns-in_err-tell c =
    let ts = record_fields (closed_type c.args.self.now.types.now c.args.params) in
    let vs = map value_of c.args.values.now in
    let al : c.align_of-align.result ≡ align (record_type ts) = c.align_of-align.ensures.value ∙ ap align c.requires.is_record in
    let sz : c.size_of-size.result ≡ size (record_type ts) = c.size_of-size.ensures.value ∙ ap size c.requires.is_record in
    let fits : fits_flat max_flat_params ts ≡ false = search rules in
    let p = err_from_is_err_and c.from_residual.result c.from_residual.ensures.1 in
    rw (p.1, p.2) (spilled-stops max_flat_params ts vs fits c.in_err-tell.field-0.0 (rw (al, sz) at c.in_err-tell.ensures))

pub returns-in_default : goal.returns-in_default
returns-in_default c =
    let ts = record_fields (closed_type c.args.self.now.types.now c.args.params) in
    let vs = map value_of c.args.values.now in
    let al : c.align_of-align.result ≡ align (record_type ts) = c.align_of-align.ensures.value ∙ ap align c.requires.is_record in
    let sz : c.size_of-size.result ≡ size (record_type ts) = c.size_of-size.ensures.value ∙ ap size c.requires.is_record in
    let fits : fits_flat max_flat_params ts ≡ false = search rules in
    let first = rw (al, sz) at c.in_ok-tell.ensures in
    spilled-told max_flat_params ts vs fits c.args.told.now.items c.tell.new.told.items c.tell_fields.new.told.items c.tell_fields.result first c.tell_fields.ensures
