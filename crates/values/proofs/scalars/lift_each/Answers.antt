use Rattle.std.proofs.Common.{◌≡◌, length, arith}
use Rattle.std.proofs.lemmas.Result.{err_from_is_err_and}
use Rattle.std.proofs.lemmas.Grind.{common_steps}
use Rattle.canonical_abi.specs.declared.flat.Flat.TheVariants as flat
use Rattle.tables.specs.declared.tables.Primitive.TheVariants as primitive
use Rattle.tables.specs.declared.tables.ValType.TheVariants as val
use Rattle.values.proofs.ScalarLists.{same_count, stands_more, fault_at}
use Rattle.values.proofs.scalars.lift_each.Goals as goal

pub returns-in_err-lift_scalar-clause-fault : goal.returns-in_err-lift_scalar-clause-fault
returns-in_err-lift_scalar-clause-fault c =
    let p = err_from_is_err_and c.from_residual.result c.from_residual.ensures.1 in
    let i = c.loop-i.i in
    let flats = c.args.flats.now in
    let types = c.args.types.now in
    let same : length flats ≡ length types = same_count types flats c.requires.kinds in
    rw (p.1, p.2) (fault_at i types flats c.loop-i.values.items (flat.I32 0) (val.Primitive primitive.Bool) _ (omega arith) (omega arith) c.loop-i.invariant.0 (rw c.primitive_of.ensures at c.in_err-lift_scalar.ensures.fault))

pub loop-i-preserved : goal.loop-i-preserved
loop-i-preserved c =
    let i = c.loop-i.i in
    let flats = c.args.flats.now in
    let types = c.args.types.now in
    let same : length flats ≡ length types = same_count types flats c.requires.kinds in
    rw c.push.ensures.items (
      stands_more i types flats c.loop-i.values.items (flat.I32 0) (val.Primitive primitive.Bool) c.in_ok-lift_scalar.field-0 (omega arith) (omega arith) c.loop-i.invariant.0 (rw c.primitive_of.ensures at c.in_ok-lift_scalar.ensures.value),
      grind (arith, common_steps),
    )
