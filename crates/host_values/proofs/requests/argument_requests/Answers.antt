use Rattle.std.proofs.Common.{refl, sym, ap, map, subst}
use Rattle.std.proofs.lemmas.Result.{err_from_is_err_and}
use Rattle.canonical_abi.specs.Types.{record_fields}
use Rattle.canonical_abi.specs.Values.{HaveTypes}
use Rattle.values.specs.Val.{value_of}
use Rattle.values.proofs.FieldsFromAPlace.{closed-row}
use Rattle.host_values.proofs.requests.argument_requests.Goals as goal

pub tell_params-requires-clause-is_record : goal.tell_params-requires-clause-is_record
tell_params-requires-clause-is_record c = rw (closed-row c.args.types.now c.args.func c.requires.function) refl

pub tell_params-requires-clause-typed : goal.tell_params-requires-clause-typed
tell_params-requires-clause-typed c =
    let own = ap record_fields (closed-row c.args.types.now c.args.func c.requires.function) in
    subst (HaveTypes (map value_of c.args.values.now)) (sym own) c.requires.typed

pub returns-in_err-tell_params : goal.returns-in_err-tell_params
returns-in_err-tell_params c =
    let own = ap record_fields (closed-row c.args.types.now c.args.func c.requires.function) in
    let p = err_from_is_err_and c.from_residual.result c.from_residual.ensures.1 in
    rw (p.1, p.2) (rw own at c.in_err-tell_params.ensures)

pub returns : goal.returns
returns c =
    let own = ap record_fields (closed-row c.args.types.now c.args.func c.requires.function) in
    rw (own, c.new-told.ensures.items) at c.in_ok-tell_params.ensures
