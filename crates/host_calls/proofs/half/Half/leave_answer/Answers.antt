-- An answer that crosses as it is has the kind of the function's.
use Rattle.std.proofs.Common.{◌≤◌, map, length, arith}
use Rattle.std.proofs.lemmas.List.{length-map}
use Rattle.canonical_abi.specs.Layout.{max_flat_results}
use Rattle.canonical_abi.specs.Types.{result_fields}
use Rattle.tables.specs.Closed.{function_type}
use Rattle.adapter.proofs.PlainValuesCrossAsTheyAre.{own-passed}
use Rattle.host_calls.specs.Values.{flat_of}
use Rattle.host_calls.proofs.half.Half.leave_answer.Goals as goal

pub leave_plain-requires-clause-fits : goal.leave_plain-requires-clause-fits
leave_plain-requires-clause-fits c =
    let f = function_type c.args.self.now.types.now c.args.self.now.func in
    let answer = c.args.answer.now in
    let few : length (map flat_of answer) ≤ 1 = omega (arith, c.is_unasked.ensures.few c.if-is_unasked.true, length-map answer flat_of) in
    own-passed (result_fields f.result) (map flat_of answer) max_flat_results (c.is_unasked.ensures.own c.if-is_unasked.true) few
