use Rattle.values.proofs.PackageTypesAreStandard.{known-standard}
use Rattle.lift_lower.proofs.storing.store.Goals as goal

pub store_at-requires-clause-standard : goal.store_at-requires-clause-standard
store_at-requires-clause-standard g c = rw c.new.ensures (known-standard c.args.resolve.now c.args.ty c.requires.known)
