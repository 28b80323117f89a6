-- A function has a row in the layouts.
use Rattle.adapter.proofs.FunctionsInLayouts.{function-stands}
use Rattle.host_calls.proofs.calling.fit_answer.Goals as goal

pub lifted_result-kind-requires : goal.lifted_result-kind-requires
lifted_result-kind-requires c = function-stands c.args.types.now c.layouts.result.now c.args.func c.layouts.ensures c.requires.function
