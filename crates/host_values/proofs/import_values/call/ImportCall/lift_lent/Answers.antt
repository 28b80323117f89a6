-- The core values in front of the return area's address carry the arguments.
use Rattle.std.proofs.Common.{sym, subst}
use Rattle.adapter.proofs.FunctionsInLayouts.{function-stands}
use Rattle.values.proofs.PackageTypesAreStandard.{all-known-inside}
use Rattle.values.specs.Members.{AreAllInside}
use Rattle.host_values.proofs.import_values.call.ImportCall.lift_lent.Goals as goal

pub lifted_count-count-requires : goal.lifted_count-count-requires
lifted_count-count-requires c = function-stands c.args.self.now.types.now c.layouts.result.now c.args.self.now.func c.layouts.ensures c.requires.function

pub lift_params-requires-clause-inside : goal.lift_params-requires-clause-inside
lift_params-requires-clause-inside c =
    subst (AreAllInside c.args.self.now.types.now) (sym c.as_slice.ensures.value) (all-known-inside c.args.self.now.types.now c.in-Ok.params.items c.in-Ok.ensures.known)
