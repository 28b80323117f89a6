-- The bytes are those that the memory has which was lent.
use Rattle.std.proofs.Common.{subst, drop, map}
use Rattle.values.specs.Members.{fields_of_types}
use Rattle.values.specs.Val.{value_of}
use Rattle.host_values.specs.Filling.{FillsLent, FillOfLentFails}
use Rattle.host_values.proofs.FilledMemoriesKeepNames.{filled, not_filled, failed_fill_leaves}
use Rattle.host_values.proofs.filling.fill_flats.Goals as goal

pub broken_off-requires : goal.broken_off-requires
broken_off-requires c =
    let now = c.lower-done.new.guest in
    let ts = fields_of_types c.resolve-resolve.result.now c.args.types.now in
    failed_fill_leaves ts (map value_of c.args.values.now) _ _ _ now.bytes.ghost_name c.args.memory.now now.bytes.now c.args.half.now.blocks.now c.left-left.result.now c.in-Err.fault
    c.new-target.ensures.memory c.left-left.ensures c.in-Err.ensures.fault

pub returns-in-Ok-clause-filled : goal.returns-in-Ok-clause-filled
returns-in-Ok-clause-filled c =
    let now = c.lower-done.new.guest in
    let half = c.args.half.now in
    let types = c.args.types.now in
    let vs = map value_of c.args.values.now in
    let name = c.new-arg-1.given in (
      name,
      subst (λ r. FillsLent name (fields_of_types r types) vs c.args.memory.now half.blocks.now c.in-Ok.flats.items c.memory-1.given.0) c.resolve-resolve.ensures
          (filled (fields_of_types c.resolve-resolve.result.now types) vs _ _ now.bytes.ghost_name c.args.memory.now now.bytes.now _ half.blocks.now (drop now.next now.blocks.now)
          c.new-target.ensures.memory c.memory-1.given.1.1 c.in-Ok.flats.items c.in-Ok.ensures.flats),
    )

pub returns-in-Err-clause-error : goal.returns-in-Err-clause-error
returns-in-Err-clause-error c =
    let now = c.lower-done.new.guest in
    let half = c.args.half.now in
    let types = c.args.types.now in
    let vs = map value_of c.args.values.now in
    let name = c.new-arg-1.given in (
      name,
      subst (λ r. FillOfLentFails name (fields_of_types r types) vs c.args.memory.now half.blocks.now c.broken_off.result c.memory-1.given.0) c.resolve-resolve.ensures
          (not_filled (fields_of_types c.resolve-resolve.result.now types) vs _ _ now.bytes.ghost_name c.args.memory.now now.bytes.now _ half.blocks.now c.left-left.result.now
          c.new-target.ensures.memory c.memory-1.given.1.1 _ c.left-left.ensures c.in-Err.fault c.broken_off.result c.broken_off.ensures c.in-Err.ensures.fault),
    )
