use Rattle.std.proofs.Common.{[], ◌∷◌, map, refl}
use Rattle.canonical_abi.specs.Reading.{number_of, low_bits, flat_bits}
use Rattle.values.specs.Scalar.{value_in}
use Rattle.lift_lower.proofs.HeldValuesAreTyped.{prim-typed, lifted-number}
use Rattle.tables.specs.Closed.{prim_of}
use Rattle.crossing.proofs.flat.carry_primitive.Goals as goal

pub returns-in-Ok-clause-ok : goal.returns-in-Ok-clause-ok
returns-in-Ok-clause-ok g c m =
    let p = prim_of c.args.primitive in
    let ns = map number_of c.args.flats.now in
    let s = c.in-Ok.scalar in
    let typed = prim-typed p (low_bits ns 0 (flat_bits p)) (value_in s) (lifted-number p ns) c.in-Ok.ensures.value in
    let told = rw (c.lower_scalar.ensures, c.in-Ok.ensures.typed) at c.push.ensures.items in
    (value_in s, _ ∷ [], c.in-Ok.ensures.value, (typed, refl, refl), told)

pub returns-in-Err-clause-fault : goal.returns-in-Err-clause-fault
returns-in-Err-clause-fault g c = (c.in-Err.kind, refl, λ m. (c.in-Err.ensures.fault, refl))
