-- The parameter at a place and the core value there.
use Rattle.std.proofs.Common.{◌≡◌, ◌<◌, length, map, sym, ◌∙◌, subst, arith}
use Rattle.std.proofs.lemmas.List.{length-map, get_or-map}
use Rattle.canonical_abi.specs.declared.flat.Flat.{Flat}
use Rattle.tables.specs.Closed.{closed_type}
use Rattle.adapter.specs.Plain.{IsOwnOf}
use Rattle.adapter.proofs.PlainValuesCrossAsTheyAre.{parameter-inside, parameter-own}
use Rattle.host_calls.specs.Values.{flat_of}
use Rattle.host_calls.proofs.plain.are_own.Goals as goal

pub is_own_of-requires : goal.is_own_of-requires
is_own_of-requires c =
    parameter-inside c.args.types.now c.args.params.now c.loop-i.i c.index-params-i.result c.loop-i-test.true c.index-params-i.is c.requires

pub loop-i-preserved : goal.loop-i-preserved
loop-i-preserved c =
    let r = c.args.types.now in
    let values = c.args.values.now in
    let flats = map flat_of values in
    let i = c.loop-i.i in
    let same : length values ≡ length c.args.params.now = omega arith in
    let here : i < length values = omega (arith, same, c.loop-i-test.true) in
    let d = c.flat.result in
    let q : Flat → Type 0 = λ x. IsOwnOf (closed_type r c.index-params-i.result.ty) x in
    let own = subst q (c.flat.ensures ∙ sym (get_or-map flat_of values i _ d here)) (c.is_own_of.ensures c.if-not-is_own_of.false) in
    parameter-own r c.args.params.now flats i c.index-params-i.result d c.loop-i-test.true (length-map values flat_of ∙ same) c.index-params-i.is c.loop-i.invariant own
