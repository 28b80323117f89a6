-- A function has a row in the layouts.
use Rattle.adapter.proofs.FunctionsInLayouts.{function-stands}
use Rattle.host_calls.proofs.calling.fit.Goals as goal

pub takes-requires : goal.takes-requires
takes-requires c = function-stands c.args.types.now c.layouts.result.now c.args.func c.layouts.ensures c.requires.function
