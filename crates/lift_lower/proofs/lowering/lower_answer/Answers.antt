use Rattle.std.proofs.Common.{arith}
use Rattle.values.proofs.PackageTypesAreStandard.{all-known-inside, all-known-standard}
use Rattle.lift_lower.proofs.CallerSideOfTypedCalls.{passes-few}
use Rattle.lift_lower.proofs.lowering.lower_answer.Goals as goal

pub lower_params-requires-clause-inside : goal.lower_params-requires-clause-inside
lower_params-requires-clause-inside g c = all-known-inside c.args.table.now c.args.types.now c.requires.known

pub lower_params-requires-clause-standard : goal.lower_params-requires-clause-standard
lower_params-requires-clause-standard g c = all-known-standard c.args.table.now c.args.types.now c.requires.known

pub flat_results-requires : goal.flat_results-requires
flat_results-requires g c =
    let d = c.in_ok-flats.ensures.ok in
    rw c.as_slice.ensures.value (passes-few 1 _ _ d.events _ (omega arith) d.scripted)
