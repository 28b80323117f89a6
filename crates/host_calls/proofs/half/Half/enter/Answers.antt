-- Core values that cross as they are have the kinds of the function.
use Rattle.std.proofs.Common.{map, rules}
use Rattle.tables.specs.Closed.{function_type}
use Rattle.adapter.proofs.PlainValuesCrossAsTheyAre.{plain-kinds}
use Rattle.host_calls.specs.Values.{flat_of}
use Rattle.host_calls.proofs.half.Half.enter.Goals as goal

pub enter_plain-requires-clause-kinds : goal.enter_plain-requires-clause-kinds
enter_plain-requires-clause-kinds c =
    plain-kinds (function_type c.args.self.now.types.now c.args.self.now.func) (map flat_of c.args.flats.now) (search rules)
