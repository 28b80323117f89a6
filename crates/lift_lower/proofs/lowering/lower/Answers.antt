use Rattle.values.proofs.PackageTypesAreStandard.{all-known-inside, all-known-standard}
use Rattle.lift_lower.proofs.lowering.lower.Goals as goal

pub lower_params-requires-clause-inside : goal.lower_params-requires-clause-inside
lower_params-requires-clause-inside g c = rw c.new.ensures (all-known-inside c.args.resolve.now c.args.types.now c.requires.known)

pub lower_params-requires-clause-standard : goal.lower_params-requires-clause-standard
lower_params-requires-clause-standard g c = rw c.new.ensures (all-known-standard c.args.resolve.now c.args.types.now c.requires.known)
