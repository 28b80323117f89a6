-- Arguments whose requests were told can be read, so reading them fails only for want of memory.
use Rattle.std.proofs.Common.{[], refl, sym, ◌∙◌}
use Rattle.tables.specs.Closed.{function_type}
use Rattle.host_values.proofs.import_values.ReadArgumentsHaveNoFault.{only-memory}
use Rattle.host_values.proofs.import_values.call.ImportCall.arguments.Goals as goal

pub returns-in-Err-clause-err : goal.returns-in-Err-clause-err
returns-in-Err-clause-err c =
    let f = function_type c.args.self.now.types.now c.args.self.now.func in
    only-memory f c.args.self.now.flats.now c.args.memory.now c.args.limit [] c.enter_requests.new.requests c.in_ok-enter_requests.field-0 _ _ c.in-Err.fault
    c.in_ok-enter_requests.ensures.done (sym c.in_ok-enter_requests.ensures.same_caller) (c.as_slice.ensures.value ∙ c.if-not-put_flats.ensures.flats refl) c.in-Err.ensures.fault

pub returns-in-Ok-clause-few : goal.returns-in-Ok-clause-few
returns-in-Ok-clause-few c =
    let told = c.in_ok-enter_requests.ensures.done.1 in
    (told.0, told.1, told.4)
