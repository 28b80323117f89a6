use Rattle.std.proofs.Common.{◌≡◌, ◌≤◌, sym, ap, ◌∙◌, subst}
use Rattle.canonical_abi.specs.Types.{record_type, result_fields}
use Rattle.canonical_abi.specs.Layout.{size}
use Rattle.tables.specs.Closed.{function_type}
use Rattle.values.specs.Members.{fields_of_types, AreAllInside}
use Rattle.tables.proofs.HasStandardTypes.{function-standard}
use Rattle.adapter.proofs.ParametersAsTableTypes.{same_types}
use Rattle.adapter.proofs.FunctionsInLayouts.{function-stands, function-shallow, result-known, result-inside, result-is, result-fields, all-inside, result-small}
use Rattle.adapter.proofs.WhyNothingIsAsked.{unasked-told, half-limit}
use Rattle.adapter.proofs.requests.ask_answer.Goals as goal

pub lifted_result-result-requires : goal.lifted_result-result-requires
lifted_result-result-requires g c = function-stands c.args.table.now c.layouts.result.now c.args.func c.layouts.ensures c.requires.function

pub ask_result-requires-clause-inside : goal.ask_result-requires-clause-inside
ask_result-requires-clause-inside g c =
    let r = c.args.table.now in
    let s = c.signature.result.now in
    let known = result-inside r c.args.func c.requires.function s (rw c.resolve.ensures at c.signature.ensures) in
    subst (AreAllInside r) (sym (same_types s.result _ c.as_slice-types.ensures)) (all-inside r s.result known)

pub ask_result-requires-clause-small : goal.ask_result-requires-clause-small
ask_result-requires-clause-small g c =
    let r = c.args.table.now in
    let s = c.signature.result.now in
    let known = result-known r c.args.func c.requires.function s (rw c.resolve.ensures at c.signature.ensures) in
    subst (λ ts. size (record_type (fields_of_types r ts)) ≤ 16777216) (sym (same_types s.result _ c.as_slice-types.ensures)) (result-small r c.requires.within s.result known)

pub returns-in-Ok-clause-told : goal.returns-in-Ok-clause-told
returns-in-Ok-clause-told g c =
    let r = c.args.table.now in
    let f = function_type r c.args.func in
    let s = c.signature.result.now in
    let is = result-is r c.args.func c.requires.function s (rw c.resolve.ensures at c.signature.ensures) in
    let own : fields_of_types r c.as_slice-types.result.now ≡ result_fields f.result = ap (fields_of_types r) (same_types s.result _ c.as_slice-types.ensures) ∙ result-fields r s.result ∙ ap result_fields (sym is) in
    rw (own, c.bytes.ensures) at c.in-Ok.ensures.told

pub returns-in-Err-clause-fault : goal.returns-in-Err-clause-fault
returns-in-Err-clause-fault g c =
    let r = c.args.table.now in
    let f = function_type r c.args.func in
    let s = c.signature.result.now in
    let is = result-is r c.args.func c.requires.function s (rw c.resolve.ensures at c.signature.ensures) in
    let own : fields_of_types r c.as_slice-types.result.now ≡ result_fields f.result = ap (fields_of_types r) (same_types s.result _ c.as_slice-types.ensures) ∙ result-fields r s.result ∙ ap result_fields (sym is) in
    let h = rw (own, c.bytes.ensures) at c.in-Err.ensures.fault in
    rw c.unasked_of.ensures (unasked-told _ _ _ _ _ _ (λ k d. d) c.in-Err.untold h)

pub returns-in-Ok-clause-few : goal.returns-in-Ok-clause-few
returns-in-Ok-clause-few g c =
    let r = c.args.table.now in
    let f = function_type r c.args.func in
    let s = c.signature.result.now in
    let is = result-is r c.args.func c.requires.function s (rw c.resolve.ensures at c.signature.ensures) in
    let own : fields_of_types r c.as_slice-types.result.now ≡ result_fields f.result = ap (fields_of_types r) (same_types s.result _ c.as_slice-types.ensures) ∙ result-fields r s.result ∙ ap result_fields (sym is) in
    let few = rw own at c.ask_result.ensures.few in
    few 64 (function-standard r c.args.func c.requires.function).result (function-shallow r c.requires.within c.args.func c.requires.function).result

pub returns-in-Err-clause-few : goal.returns-in-Err-clause-few
returns-in-Err-clause-few g c =
    let r = c.args.table.now in
    let f = function_type r c.args.func in
    let s = c.signature.result.now in
    let is = result-is r c.args.func c.requires.function s (rw c.resolve.ensures at c.signature.ensures) in
    let own : fields_of_types r c.as_slice-types.result.now ≡ result_fields f.result = ap (fields_of_types r) (same_types s.result _ c.as_slice-types.ensures) ∙ result-fields r s.result ∙ ap result_fields (sym is) in
    let few = rw own at c.ask_result.ensures.few in
    few 64 (function-standard r c.args.func c.requires.function).result (function-shallow r c.requires.within c.args.func c.requires.function).result

pub returns-in-Ok-clause-limit : goal.returns-in-Ok-clause-limit
returns-in-Ok-clause-limit g c = λ _.
    let r = c.args.table.now in
    let f = function_type r c.args.func in
    let s = c.signature.result.now in
    let is = result-is r c.args.func c.requires.function s (rw c.resolve.ensures at c.signature.ensures) in
    let own : fields_of_types r c.as_slice-types.result.now ≡ result_fields f.result = ap (fields_of_types r) (same_types s.result _ c.as_slice-types.ensures) ∙ result-fields r s.result ∙ ap result_fields (sym is) in
    rw (own, c.bytes.ensures) at c.in-Ok.ensures.limit

pub returns-in-Err-clause-limit : goal.returns-in-Err-clause-limit
returns-in-Err-clause-limit g c = λ _.
    let r = c.args.table.now in
    let f = function_type r c.args.func in
    let s = c.signature.result.now in
    let is = result-is r c.args.func c.requires.function s (rw c.resolve.ensures at c.signature.ensures) in
    let own : fields_of_types r c.as_slice-types.result.now ≡ result_fields f.result = ap (fields_of_types r) (same_types s.result _ c.as_slice-types.ensures) ∙ result-fields r s.result ∙ ap result_fields (sym is) in
    let h = rw (own, c.bytes.ensures) at c.in-Err.ensures.limit in
    rw c.unasked_of.ensures (half-limit _ _ _ c.in-Err.untold h)
