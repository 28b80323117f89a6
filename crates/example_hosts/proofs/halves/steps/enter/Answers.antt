-- What the half says of the table and the memories that it was given is said of those of this host.
use Rattle.std.proofs.Common.{ℕ, List, subst}
use Rattle.std.proofs.lemmas.Result.{err_from_is_err_and}
use Rattle.host_calls.specs.Halves.{EntersLent, EntryOfLentFails}
use Rattle.tables.specs.Closed.{function_type}
use Rattle.example_hosts.proofs.halves.steps.enter.Goals as goal

pub returns-in_err-enter_flats-clause-entered : goal.returns-in_err-enter_flats-clause-entered
returns-in_err-enter_flats-clause-entered c =
    let granted = c.grant-granted.new.memory in
    let blocks = c.lendable-blocks.result.now in
    let P : List ℕ → Type 0 = λ m. (name : ℕ) × EntryOfLentFails name (function_type c.args.types.now c.args.invocation.now.func) c.args.invocation.now.flats.now m granted blocks c.in_err-enter_flats.field-0.0 c.enter_flats.new.callee in
    let failed = subst P c.request_arguments.ensures.same_caller c.in_err-enter_flats.ensures.error in
    let p = err_from_is_err_and c.from_residual.result c.from_residual.ensures.1 in
    rw (p.1, p.2) (granted, blocks, c.grant-granted.ensures.kept, failed)

pub returns-clause-entered : goal.returns-clause-entered
returns-clause-entered c =
    let granted = c.grant-granted.new.memory in
    let blocks = c.lendable-blocks.result.now in
    let P : List ℕ → Type 0 = λ m. (name : ℕ) × EntersLent name (function_type c.args.types.now c.args.invocation.now.func) c.args.invocation.now.flats.now m granted blocks c.enter_flats.new.handed.items c.enter_flats.new.callee in
    let entered = subst P c.request_arguments.ensures.same_caller c.in_ok-enter_flats.ensures.entered in
    (granted, blocks, c.grant-granted.ensures.kept, entered)
