use Rattle.std.proofs.Common.{map, arith}
use Rattle.values.proofs.PackageTypesAreStandard.{all-known-inside}
use Rattle.adapter.proofs.FunctionsInLayouts.{params-known, params-are}
use Rattle.adapter.proofs.plain.are_plain.Goals as goal

pub are_own-requires : goal.are_own-requires
are_own-requires c =
    let r = c.args.types.now in
    let s = c.signature.result.now in
    let found = rw c.resolve.ensures at c.signature.ensures in
    rw c.as_slice.ensures (all-known-inside r (map (λ p. p.ty) s.params) (params-known r c.args.func c.requires s found))

pub returns : goal.returns
returns c =
    let r = c.args.types.now in
    let s = c.signature.result.now in
    let found = rw c.resolve.ensures at c.signature.ensures in
    let params = params-are r c.args.func c.requires s found in
    λ own. (c.is_plain_result.ensures c.if-not-is_plain_result.false, omega arith, rw (params, ← c.as_slice.ensures) (c.are_own.ensures own))
