-- A function has a row in the layouts.
use Rattle.adapter.proofs.FunctionsInLayouts.{function-stands}
use Rattle.host_calls.proofs.signature.lifted_params.Goals as goal

pub lifted-requires : goal.lifted-requires
lifted-requires c = function-stands c.args.types.now c.layouts.result.now c.args.func c.layouts.ensures c.requires.function
