use Rattle.std.proofs.Common.{inr, refl, map, sym, ap, ◌∙◌, rules}
use Rattle.canonical_abi.specs.Types.{record_type, record_fields}
use Rattle.canonical_abi.specs.Layout.{lifted_signature, max_flat_params, passed_kinds}
use Rattle.canonical_abi.specs.Reading.{kind_of}
use Rattle.canonical_abi.specs.Call.{KindsFit}
use Rattle.tables.specs.Closed.{function_type}
use Rattle.tables.proofs.HasStandardTypes.{function-standard}
use Rattle.adapter.proofs.FunctionsInLayouts.{function-stands, function-shallow, params-row, params-inside}
use Rattle.adapter.proofs.CallFromItsWays.{argument-kinds, same-arguments}
use Rattle.adapter.proofs.WhyNothingIsAsked.{unasked-told, half-limit}
use Rattle.adapter.proofs.requests.ask_arguments.Goals as goal

pub takes-requires : goal.takes-requires
takes-requires g c = function-stands c.args.table.now c.layouts-layouts.result.now c.args.func c.layouts-layouts.ensures c.requires.function

pub lifted_count-count-requires : goal.lifted_count-count-requires
lifted_count-count-requires g c = function-stands c.args.table.now c.layouts-layouts.result.now c.args.func c.layouts-layouts.ensures c.requires.function

pub ask_params-requires-clause-inside : goal.ask_params-requires-clause-inside
ask_params-requires-clause-inside g c = params-inside c.args.table.now c.args.func c.requires.function _ refl

pub ask_params-requires-clause-is_record : goal.ask_params-requires-clause-is_record
ask_params-requires-clause-is_record g c =
    let row = params-row c.args.table.now c.args.func c.requires.function _ refl in
    row ∙ sym (ap (λ t. record_type (record_fields t)) row)

pub ask_params-requires-clause-kinds : goal.ask_params-requires-clause-kinds
ask_params-requires-clause-kinds g c =
    let r = c.args.table.now in
    let f = function_type r c.args.func in
    let flats = c.args.flats.now in
    let row = params-row r c.args.func c.requires.function _ refl in
    let kinds : KindsFit f flats = search rules in
    let same = same-arguments f flats _ c.lifted_count-count.result (lifted_signature f) refl (c.lifted_count-count.ensures r c.layouts-layouts.ensures c.requires.function) refl in
    ap (map kind_of) same ∙ argument-kinds f flats kinds ∙ sym (ap (λ t. passed_kinds max_flat_params (record_fields t)) row)

pub returns-in-Ok-clause-told : goal.returns-in-Ok-clause-told
returns-in-Ok-clause-told g c =
    let r = c.args.table.now in
    let f = function_type r c.args.func in
    let flats = c.args.flats.now in
    let row = params-row r c.args.func c.requires.function _ refl in
    let same = same-arguments f flats _ c.lifted_count-count.result (lifted_signature f) refl (c.lifted_count-count.ensures r c.layouts-layouts.ensures c.requires.function) refl in
    rw (row, same, c.bytes.ensures) at c.in-Ok.ensures.told

pub returns-in-Err-clause-fault : goal.returns-in-Err-clause-fault
returns-in-Err-clause-fault g c =
    let r = c.args.table.now in
    let f = function_type r c.args.func in
    let flats = c.args.flats.now in
    let row = params-row r c.args.func c.requires.function _ refl in
    let kinds : KindsFit f flats = search rules in
    let same = same-arguments f flats _ c.lifted_count-count.result (lifted_signature f) refl (c.lifted_count-count.ensures r c.layouts-layouts.ensures c.requires.function) refl in
    let h = rw (row, same, c.bytes.ensures) at c.in-Err.ensures.fault in
    rw c.unasked_of.ensures (unasked-told _ _ _ _ _ _ (λ k d. inr (kinds, d)) c.in-Err.untold h)

pub returns-in-Ok-clause-few : goal.returns-in-Ok-clause-few
returns-in-Ok-clause-few g c = λ within.
    let r = c.args.table.now in
    let row = params-row r c.args.func c.requires.function _ refl in
    let few = rw row at c.ask_params.ensures.few in
    few 64 (function-standard r c.args.func c.requires.function).params (function-shallow r within c.args.func c.requires.function).params

pub returns-in-Err-clause-few : goal.returns-in-Err-clause-few
returns-in-Err-clause-few g c = λ within.
    let r = c.args.table.now in
    let row = params-row r c.args.func c.requires.function _ refl in
    let few = rw row at c.ask_params.ensures.few in
    few 64 (function-standard r c.args.func c.requires.function).params (function-shallow r within c.args.func c.requires.function).params

pub returns-in-Ok-clause-limit : goal.returns-in-Ok-clause-limit
returns-in-Ok-clause-limit g c = λ _.
    let r = c.args.table.now in
    let f = function_type r c.args.func in
    let flats = c.args.flats.now in
    let row = params-row r c.args.func c.requires.function _ refl in
    let same = same-arguments f flats _ c.lifted_count-count.result (lifted_signature f) refl (c.lifted_count-count.ensures r c.layouts-layouts.ensures c.requires.function) refl in
    rw (row, same, c.bytes.ensures) at c.in-Ok.ensures.limit

pub returns-in-Err-clause-limit : goal.returns-in-Err-clause-limit
returns-in-Err-clause-limit g c = λ _.
    let r = c.args.table.now in
    let f = function_type r c.args.func in
    let flats = c.args.flats.now in
    let row = params-row r c.args.func c.requires.function _ refl in
    let same = same-arguments f flats _ c.lifted_count-count.result (lifted_signature f) refl (c.lifted_count-count.ensures r c.layouts-layouts.ensures c.requires.function) refl in
    let h = rw (row, same, c.bytes.ensures) at c.in-Err.ensures.limit in
    rw c.unasked_of.ensures (half-limit _ _ _ c.in-Err.untold h)
