-- A function has a row in the layouts.
use Rattle.adapter.proofs.FunctionsInLayouts.{function-stands}
use Rattle.host_calls.proofs.signature.lowered_result.Goals as goal

pub lowered-requires : goal.lowered-requires
lowered-requires c = function-stands c.args.types.now c.layouts.result.now c.args.func c.layouts.ensures c.requires.function
