use Rattle.std.proofs.Common.{map, arith}
use Rattle.tables.specs.Closed.{function_type}
use Rattle.values.proofs.PackageTypesAreStandard.{all-known-inside}
use Rattle.adapter.specs.Plain.{CarryBetween}
use Rattle.adapter.proofs.FunctionsInLayouts.{function-stands, params-known, params-are}
use Rattle.adapter.proofs.NestedValuesCrossAsTheyAre.{front-nested, whole-nested}
use Rattle.adapter.proofs.nested.nested_arguments.Goals as goal

pub end_of_parameters-requires : goal.end_of_parameters-requires
end_of_parameters-requires c =
    let r = c.args.types.now in
    let s = c.signature.result.now in
    let found = rw c.resolve.ensures at c.signature.ensures in
    rw c.as_slice-params.ensures (all-known-inside r (map (λ p. p.ty) s.params) (params-known r c.args.func c.requires.function s found))

pub takes-requires : goal.takes-requires
takes-requires c = function-stands c.args.types.now c.layouts.result.now c.args.func c.layouts.ensures c.requires.function

pub returns-then-is_plain_result : goal.returns-then-is_plain_result
returns-then-is_plain_result c =
    let r = c.args.types.now in
    let f = function_type r c.args.func in
    let s = c.signature.result.now in
    let found = rw c.resolve.ensures at c.signature.ensures in
    let is = params-are r c.args.func c.requires.function s found in
    let here = rw c.requires.fresh at c.in_ok-end.ensures in
    let carried : CarryBetween f.params c.args.flats.now 0 c.in_ok-end.end 0 c.end_of_parameters.new.nodes = rw (is, ← c.as_slice-params.ensures) here in
    whole-nested f c.args.flats.now c.in_ok-end.end c.end_of_parameters.new.nodes carried (omega arith) (c.is_plain_result.ensures c.if-is_plain_result.true) (omega arith) (omega arith)

pub returns-then-takes : goal.returns-then-takes
returns-then-takes c =
    let r = c.args.types.now in
    let f = function_type r c.args.func in
    let s = c.signature.result.now in
    let found = rw c.resolve.ensures at c.signature.ensures in
    let is = params-are r c.args.func c.requires.function s found in
    let here = rw c.requires.fresh at c.in_ok-end.ensures in
    let carried : CarryBetween f.params c.args.flats.now 0 c.in_ok-end.end 0 c.end_of_parameters.new.nodes = rw (is, ← c.as_slice-params.ensures) here in
    let kinds = (c.takes.ensures r c.layouts.ensures c.requires.function).0 c.if-takes.true in
    front-nested f c.args.flats.now c.in_ok-end.end c.end_of_parameters.new.nodes carried kinds (omega arith) (omega arith)
