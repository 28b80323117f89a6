-- The callee's bytes are those that the memory has which was lent.
use Rattle.std.proofs.Common.{ap, ◌∙◌, subst, drop}
use Rattle.memory.proofs.LentNamesStay.{IsNamed}
use Rattle.tables.specs.Closed.{function_type}
use Rattle.host_calls.specs.Halves.{EntersLent, EntryOfLentFails}
use Rattle.host_calls.proofs.LentMemoriesKeepNames.{entered, not_entered, failed_entry_keeps, named_lent, left_fit}
use Rattle.host_calls.proofs.half.Half.enter_flats.Goals as goal

pub broken_off-requires : goal.broken_off-requires
broken_off-requires c =
    let now = c.enter-done.new.callee in
    let f = function_type c.new-link.result.resolve c.args.self.now.func in
    let named = failed_entry_keeps f c.args.flats.now _ _ _ _ c.enter-done.new.self.there c.args.self.now.blocks.now c.in-Err.fault c.in-Err.ensures.fault (named_lent _ _ _ _ c.new-target.ensures.memory) in
    left_fit _ now.bytes.ghost_name now.bytes.now c.args.self.now.blocks.now c.left-left.result.now (subst (IsNamed _ c.args.self.now.blocks.now) c.left-left.ensures named)

pub returns-in-Ok-clause-entered : goal.returns-in-Ok-clause-entered
returns-in-Ok-clause-entered c =
    let now = c.enter-done.new.callee in (
      c.new-arg-4-1.given,
      subst (λ r. EntersLent c.new-arg-4-1.given (function_type r c.args.self.now.func) c.args.flats.now c.args.caller.now c.args.callee.now c.args.self.now.blocks.now c.enter-done.new.handed.items c.callee-1.given.0) (c.new-link.ensures.«package» ∙ c.resolve-resolve.ensures)
          (entered (function_type c.new-link.result.resolve c.args.self.now.func) c.args.flats.now c.args.caller.now _ _ _ now.bytes.ghost_name c.enter-done.new.self.there c.args.callee.now now.bytes.now _ c.args.self.now.blocks.now (drop now.next now.blocks.now)
          (ap (λ memory. memory.bytes) c.new-source.ensures.memory) c.new-target.ensures.memory c.callee-1.given.1.1 c.enter-done.new.handed.items c.in-Ok.ensures.entered),
    )

pub returns-in-Err-clause-error : goal.returns-in-Err-clause-error
returns-in-Err-clause-error c =
    let now = c.enter-done.new.callee in (
      c.new-arg-4-1.given,
      subst (λ r. EntryOfLentFails c.new-arg-4-1.given (function_type r c.args.self.now.func) c.args.flats.now c.args.caller.now c.args.callee.now c.args.self.now.blocks.now c.broken_off.result c.callee-1.given.0) (c.new-link.ensures.«package» ∙ c.resolve-resolve.ensures)
          (not_entered (function_type c.new-link.result.resolve c.args.self.now.func) c.args.flats.now c.args.caller.now _ _ _ now.bytes.ghost_name c.enter-done.new.self.there c.args.callee.now now.bytes.now _ c.args.self.now.blocks.now c.left-left.result.now
          (ap (λ memory. memory.bytes) c.new-source.ensures.memory) c.new-target.ensures.memory c.callee-1.given.1.1 _ c.left-left.ensures c.in-Err.fault c.broken_off.result c.broken_off.ensures c.in-Err.ensures.fault),
    )
