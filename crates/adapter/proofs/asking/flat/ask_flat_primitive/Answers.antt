use Rattle.std.proofs.Common.{ℕ, ◌%◌, ◌^◌, map, sym, subst}
use Rattle.canonical_abi.specs.Memory.{PrimIs}
use Rattle.canonical_abi.specs.Types.{prim_type}
use Rattle.canonical_abi.specs.Reading.{number_of, low_bits, flat_bits}
use Rattle.canonical_abi.proofs.ReadValues.ReadsExactly.{lifting-tells}
use Rattle.tables.specs.Closed.{prim_of}
use Rattle.values.specs.Scalar.{value_in}
use Rattle.adapter.proofs.asking.RequestsOfParts.{told-none, first-number}
use Rattle.adapter.proofs.asking.flat.ask_flat_primitive.Goals as goal

pub returns-in-Ok-clause-asks : goal.returns-in-Ok-clause-asks
unfolding low_bits
returns-in-Ok-clause-asks c =
    let p = prim_of c.args.primitive in
    let v = value_in c.in-Ok.field-0 in
    let P : ℕ → Type 0 = λ n. PrimIs p (n % 2 ^ flat_bits p) v in
    λ m. (
      v,
      (lifting-tells (prim_type p) m (map number_of c.args.flats.now)).ok_only v (subst P (sym (first-number c.args.flats.now _ c.requires)) c.in-Ok.ensures.value.1),
      told-none c.args.slots.now c.args.count.now c.args.left.now,
    )
