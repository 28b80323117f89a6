-- What the half says of the table and the memories that it was given is said of those of this host, and no block meets the return area.
use Rattle.std.proofs.Common.{◌≡◌, ℕ, ◌<◌, true, List, sym, subst}
use Rattle.std.specs.List.{list_all}
use Rattle.std.proofs.lemmas.Result.{err_from_is_err_and}
use Rattle.host_calls.specs.Halves.{ReturnsLent, ReturnOfLentFails}
use Rattle.memory.specs.Blocks.{is_apart}
use Rattle.memory.specs.declared.block.Block.{Block}
use Rattle.tables.specs.Closed.{function_type}
use Rattle.example_hosts.proofs.HostStepsKeepPromise.{beside}
use Rattle.example_hosts.proofs.halves.steps.leave.Goals as goal

pub returns-in_err-leave_flats-clause-left : goal.returns-in_err-leave_flats-clause-left
returns-in_err-leave_flats-clause-left c =
    let granted = c.grant-granted.new.memory in
    let blocks = c.lendable-blocks.result.now in
    let P : List ℕ → Type 0 = λ m. (name : ℕ) × ReturnOfLentFails name (function_type c.args.types.now c.args.invocation.now.func) c.args.invocation.now.flats.now m c.args.answer.now granted blocks c.in_err-leave_flats.field-0.0 c.leave_flats.new.caller in
    let failed = subst P c.request_answer.ensures.same_callee c.in_err-leave_flats.ensures.error in
    let limited = subst (λ (k : ℕ). k < 4294967296) (sym c.grant-granted.ensures.kept.0) c.requires.limited in
    let apart = subst (λ (b : Block). list_all (is_apart b) blocks ≡ true) c.return_area-area.ensures c.lendable-blocks.ensures.beside in
    let p = err_from_is_err_and c.from_residual.result c.from_residual.ensures.1 in
    rw (p.1, p.2) (granted, blocks, c.grant-granted.ensures.kept, beside (function_type c.args.types.now c.args.invocation.now.func) c.args.invocation.now.flats.now granted blocks limited c.lendable-blocks.ensures.good apart, failed)

pub returns-clause-left : goal.returns-clause-left
returns-clause-left c =
    let granted = c.grant-granted.new.memory in
    let blocks = c.lendable-blocks.result.now in
    let P : List ℕ → Type 0 = λ m. (name : ℕ) × ReturnsLent name (function_type c.args.types.now c.args.invocation.now.func) c.args.invocation.now.flats.now m c.args.answer.now granted blocks c.leave_flats.new.back.items c.leave_flats.new.caller in
    let left = subst P c.request_answer.ensures.same_callee c.in_ok-leave_flats.ensures.returned in
    let limited = subst (λ (k : ℕ). k < 4294967296) (sym c.grant-granted.ensures.kept.0) c.requires.limited in
    let apart = subst (λ (b : Block). list_all (is_apart b) blocks ≡ true) c.return_area-area.ensures c.lendable-blocks.ensures.beside in
    (granted, blocks, c.grant-granted.ensures.kept, beside (function_type c.args.types.now c.args.invocation.now.func) c.args.invocation.now.flats.now granted blocks limited c.lendable-blocks.ensures.good apart, left)
