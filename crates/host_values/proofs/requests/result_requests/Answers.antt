use Rattle.std.proofs.Common.{◌≡◌, refl, sym, ap, ◌∙◌, map, subst}
use Rattle.std.proofs.lemmas.Result.{err_from_is_err_and}
use Rattle.canonical_abi.specs.Types.{result_fields}
use Rattle.canonical_abi.specs.Values.{HaveTypes}
use Rattle.tables.specs.Closed.{function_type}
use Rattle.values.specs.Members.{fields_of_types, AreAllInside}
use Rattle.values.specs.Val.{value_of}
use Rattle.adapter.proofs.ParametersAsTableTypes.{same_types}
use Rattle.adapter.proofs.FunctionsInLayouts.{result-inside, result-is, result-fields, all-inside}
use Rattle.host_values.proofs.requests.result_requests.Goals as goal

pub tell_fields-requires-clause-inside : goal.tell_fields-requires-clause-inside
tell_fields-requires-clause-inside c =
    let r = c.args.types.now in
    let s = c.signature.result.now in
    let known = result-inside r c.args.func c.requires.function s (rw c.resolve.ensures at c.signature.ensures) in
    subst (AreAllInside r) (sym (same_types s.result _ c.as_slice-result.ensures)) (all-inside r s.result known)

pub tell_fields-requires-clause-typed : goal.tell_fields-requires-clause-typed
tell_fields-requires-clause-typed c =
    let r = c.args.types.now in
    let f = function_type r c.args.func in
    let s = c.signature.result.now in
    let is = result-is r c.args.func c.requires.function s (rw c.resolve.ensures at c.signature.ensures) in
    let own : fields_of_types r c.as_slice-result.result.now ≡ result_fields f.result = ap (fields_of_types r) (same_types s.result _ c.as_slice-result.ensures) ∙ result-fields r s.result ∙ ap result_fields (sym is) in
    subst (HaveTypes (map value_of c.args.values.now)) (sym own) c.requires.typed

pub returns-in_err-tell_fields : goal.returns-in_err-tell_fields
returns-in_err-tell_fields c =
    let r = c.args.types.now in
    let f = function_type r c.args.func in
    let s = c.signature.result.now in
    let is = result-is r c.args.func c.requires.function s (rw c.resolve.ensures at c.signature.ensures) in
    let own : fields_of_types r c.as_slice-result.result.now ≡ result_fields f.result = ap (fields_of_types r) (same_types s.result _ c.as_slice-result.ensures) ∙ result-fields r s.result ∙ ap result_fields (sym is) in
    let p = err_from_is_err_and c.from_residual.result c.from_residual.ensures.1 in
    rw (p.1, p.2) (rw own at c.in_err-tell_fields.ensures)

pub returns : goal.returns
returns c =
    let r = c.args.types.now in
    let f = function_type r c.args.func in
    let s = c.signature.result.now in
    let is = result-is r c.args.func c.requires.function s (rw c.resolve.ensures at c.signature.ensures) in
    let own : fields_of_types r c.as_slice-result.result.now ≡ result_fields f.result = ap (fields_of_types r) (same_types s.result _ c.as_slice-result.ensures) ∙ result-fields r s.result ∙ ap result_fields (sym is) in
    rw (own, c.new-told.ensures.items) at c.in_ok-tell_fields.ensures
