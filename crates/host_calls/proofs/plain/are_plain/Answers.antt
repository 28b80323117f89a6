-- The parameters' types are those of the function's type.
use Rattle.std.proofs.Common.{map, ◌≤◌, length, arith}
use Rattle.std.proofs.lemmas.List.{length-map}
use Rattle.values.proofs.PackageTypesAreStandard.{all-known-inside}
use Rattle.adapter.proofs.FunctionsInLayouts.{params-known, params-are}
use Rattle.host_calls.specs.Values.{flat_of}
use Rattle.host_calls.proofs.plain.are_plain.Goals as goal

pub are_own-requires : goal.are_own-requires
are_own-requires c =
    let r = c.args.types.now in
    let s = c.signature.result.now in
    let found = rw c.resolve.ensures at c.signature.ensures in
    rw c.as_slice.ensures (all-known-inside r (map (λ p. p.ty) s.params) (params-known r c.args.func c.requires s found))

pub returns : goal.returns
returns c =
    let r = c.args.types.now in
    let s = c.signature.result.now in
    let found = rw c.resolve.ensures at c.signature.ensures in
    let params = params-are r c.args.func c.requires s found in
    let few : length (map flat_of c.args.values.now) ≤ 16 = omega (arith, length-map c.args.values.now flat_of) in
    λ own. (c.is_plain_result.ensures c.if-not-is_plain_result.false, few, rw (params, ← c.as_slice.ensures) (c.are_own.ensures own))
