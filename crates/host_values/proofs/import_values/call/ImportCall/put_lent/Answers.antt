-- The bytes are those that the memory has which was lent.
use Rattle.std.proofs.Common.{drop, map}
use Rattle.canonical_abi.specs.Types.{result_fields}
use Rattle.tables.specs.Closed.{function_type}
use Rattle.values.specs.Val.{value_of}
use Rattle.host_values.proofs.import_values.AnsweredMemoriesKeepNames.{answered, not_answered, failed_answer_leaves}
use Rattle.host_values.proofs.import_values.call.ImportCall.put_lent.Goals as goal

pub broken_off-requires : goal.broken_off-requires
broken_off-requires c =
    let now = c.put-done.new.guest in
    let ts = result_fields (function_type c.args.self.now.types.now c.args.self.now.func).result in
    failed_answer_leaves _ c.args.blocks.now ts c.args.area (map value_of c.args.values.now) _ _ now.bytes.ghost_name c.args.memory.now now.bytes.now c.left-left.result.now c.in-Err.fault
    c.new-target.ensures.memory c.left-left.ensures c.in-Err.ensures.fault

pub returns-in-Ok-clause-given : goal.returns-in-Ok-clause-given
returns-in-Ok-clause-given c =
    let now = c.put-done.new.guest in
    let ts = result_fields (function_type c.args.self.now.types.now c.args.self.now.func).result in
    let name = c.new-arg-1.given in (
      name,
      answered name c.args.blocks.now ts c.args.area (map value_of c.args.values.now) _ now.bytes.ghost_name c.args.memory.now now.bytes.now _ (drop now.next now.blocks.now)
          c.new-target.ensures.memory c.memory-1.given.1.1 c.in-Ok.given.items c.in-Ok.ensures.given,
    )

pub returns-in-Err-clause-error : goal.returns-in-Err-clause-error
returns-in-Err-clause-error c =
    let now = c.put-done.new.guest in
    let ts = result_fields (function_type c.args.self.now.types.now c.args.self.now.func).result in
    let name = c.new-arg-1.given in (
      name,
      not_answered name c.args.blocks.now ts c.args.area (map value_of c.args.values.now) _ now.bytes.ghost_name c.args.memory.now now.bytes.now _ c.left-left.result.now
          c.new-target.ensures.memory c.memory-1.given.1.1 _ c.left-left.ensures c.in-Err.fault c.broken_off.result c.broken_off.ensures c.in-Err.ensures.fault,
    )
