use Rattle.std.proofs.Common.{◌≡◌, ◌<◌, [], ◌∷◌, map, length, get_or, sym, ap, ◌∙◌, subst, arith}
use Rattle.std.proofs.lemmas.List.{length-map, length-append, get_or-map}
use Rattle.canonical_abi.specs.Values.{HasPrimType}
use Rattle.values.specs.Scalar.{prim_in, value_in}
use Rattle.values.specs.Val.{value_of}
use Rattle.lift_lower.specs.Lowered.{CarriesScalar}
use Rattle.lift_lower.proofs.ScalarsLowered.{carry-more}
use Rattle.lift_lower.proofs.placing.lower_scalars.Goals as goal

pub loop-value-preserved : goal.loop-value-preserved
loop-value-preserved c =
    let vs = map value_of c.args.values.now in
    let i = c.loop-value.value-index in
    let v = c.value-item.result in
    let s = c.in-Some.scalar in
    let f = c.lower_scalar.result in
    let own : get_or vs i (value_of v) ≡ value_of v = get_or-map value_of c.args.values.now i v (value_of v) c.loop-value-test.true ∙ ap value_of (sym c.value-item.is) in
    let here : get_or vs i (value_of v) ≡ value_in s = own ∙ sym c.in-Some.ensures.value in
    let below : i < length vs = omega (arith, length-map c.args.values.now value_of, c.loop-value-test.true) in
    let carries : CarriesScalar (get_or vs i (value_of v)) f = (s, subst (λ u. HasPrimType u (prim_in s)) (sym here) c.in-Some.ensures.typed, here, c.lower_scalar.ensures) in
    rw c.push.ensures.items (carry-more i vs c.loop-value.flats.items (value_of v) f below c.loop-value.invariant.0 carries, omega (arith, length-append c.loop-value.flats.items (f ∷ []), c.loop-value.invariant.1))
