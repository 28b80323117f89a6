use Rattle.std.proofs.Common.{◌≡◌, ◌≤◌, map, take, length, refl, arith}
use Rattle.std.proofs.lemmas.List.{length-take}
use Rattle.canonical_abi.specs.Call.{KindsFit}
use Rattle.tables.specs.Closed.{function_type}
use Rattle.values.proofs.PackageTypesAreStandard.{all-known-inside}
use Rattle.adapter.specs.Plain.{AreOwn}
use Rattle.adapter.proofs.FunctionsInLayouts.{function-stands, params-known, params-are}
use Rattle.adapter.proofs.PlainValuesCrossAsTheyAre.{front-arguments, whole-front}
use Rattle.adapter.proofs.plain.plain_arguments.Goals as goal

pub are_own-requires : goal.are_own-requires
are_own-requires c =
    let r = c.args.types.now in
    let s = c.signature.result.now in
    let found = rw c.resolve.ensures at c.signature.ensures in
    rw c.as_slice-params.ensures (all-known-inside r (map (λ p. p.ty) s.params) (params-known r c.args.func c.requires s found))

pub takes-requires : goal.takes-requires
takes-requires c = function-stands c.args.types.now c.layouts.result.now c.args.func c.layouts.ensures c.requires

pub returns-then-takes : goal.returns-then-takes
returns-then-takes c =
    let r = c.args.types.now in
    let f = function_type r c.args.func in
    let flats = c.args.flats.now in
    let params = c.as_slice-params.result.now in
    let s = c.signature.result.now in
    let found = rw c.resolve.ensures at c.signature.ensures in
    let is = params-are r c.args.func c.requires s found in
    let few : length params ≤ 16 = omega arith in
    let room : length params ≤ length flats = omega arith in
    let counted : length (take (length params) flats) ≡ length params = omega (arith, room, length-take (length params) flats) in
    let own : AreOwn f.params (take (length params) flats) = rw (is, ← c.as_slice-params.ensures) (c.are_own.ensures c.if-not-are_own.false) in
    let kinds : KindsFit f flats = (c.takes.ensures r c.layouts.ensures c.requires).0 c.if-takes.true in
    front-arguments f flats (take (length params) flats) (length params) kinds refl counted few own

pub returns-then-is_plain_result : goal.returns-then-is_plain_result
returns-then-is_plain_result c =
    let r = c.args.types.now in
    let f = function_type r c.args.func in
    let flats = c.args.flats.now in
    let params = c.as_slice-params.result.now in
    let s = c.signature.result.now in
    let found = rw c.resolve.ensures at c.signature.ensures in
    let is = params-are r c.args.func c.requires s found in
    let few : length params ≤ 16 = omega arith in
    let same : length params ≡ length flats = omega arith in
    let own : AreOwn f.params (take (length params) flats) = rw (is, ← c.as_slice-params.ensures) (c.are_own.ensures c.if-not-are_own.false) in
    whole-front f flats (take (length params) flats) (length params) refl same few (c.is_plain_result.ensures c.if-is_plain_result.true) own
