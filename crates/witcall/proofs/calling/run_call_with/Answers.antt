use Rattle.std.proofs.Common.{map, Ok, Err, ap, refl, ◌∙◌}
use Rattle.std.proofs.lemmas.Result.{err_from_is_err_and}
use Rattle.std.specs.Option.{option_map}
use Rattle.values.specs.Val.{value_of}
use Rattle.witcall.proofs.PrintedCalls.{asks, answers, call-refuses, not-before}
use Rattle.witcall.proofs.BytesWrittenBySlices.{appended, begun}
use Rattle.witcall.proofs.calling.run_call_with.Goals as goal

pub returns-in_err-write_bytes-clause-begun : goal.returns-in_err-write_bytes-clause-begun
returns-in_err-write_bytes-clause-begun g c = λ write.
    let asked = asks c.args.package.now.resolve c.args.iface.now c.args.func.now c.args.args.now c.in_ok-func.func _ _
    c.in_ok-func.ensures.named c.in_ok-arguments.ensures.ok c.as_slice.ensures.value in
    let called = answers (g.B.Body.runs c.args.body.now) (g.B.Body.posts c.args.body.now) (g.B.Body.state c.args.body.now) (g.B.Body.state c.call_typed.new.body)
    c.args.package.now.resolve c.in_ok-func.func (map value_of c.as_slice.result.now) (Ok (option_map value_of c.in_ok-answer.answer)) _ _ _ _
    c.in_ok-caller.ensures.fresh c.in_ok-callee.ensures.fresh c.in_ok-answer.ensures.call in
    let part = begun _ _ _ _ c.as_bytes.ensures.value c.in_err-write_bytes.ensures.begun in
    (_, part.0, record { function = c.in_ok-func.func; arguments = map value_of c.as_slice.result.now; asked = asked; answer = option_map value_of c.in_ok-answer.answer; called = called; printed = c.in_ok-output.ensures }, part.1, part.2)

pub returns-in_err-write_bytes-clause-err : goal.returns-in_err-write_bytes-clause-err
returns-in_err-write_bytes-clause-err g c =
    let asked = asks c.args.package.now.resolve c.args.iface.now c.args.func.now c.args.args.now c.in_ok-func.func _ _
    c.in_ok-func.ensures.named c.in_ok-arguments.ensures.ok c.as_slice.ensures.value in
    let called = answers (g.B.Body.runs c.args.body.now) (g.B.Body.posts c.args.body.now) (g.B.Body.state c.args.body.now) (g.B.Body.state c.call_typed.new.body)
    c.args.package.now.resolve c.in_ok-func.func (map value_of c.as_slice.result.now) (Ok (option_map value_of c.in_ok-answer.answer)) _ _ _ _
    c.in_ok-caller.ensures.fresh c.in_ok-callee.ensures.fresh c.in_ok-answer.ensures.call in
    let p = err_from_is_err_and c.from_residual-in_err-write_bytes.result c.from_residual-in_err-write_bytes.ensures.1 in
    rw (p.1, p.2, c.in_err-write_bytes.ensures.err)
    (_, record { function = c.in_ok-func.func; arguments = map value_of c.as_slice.result.now; asked = asked; answer = option_map value_of c.in_ok-answer.answer; called = called; printed = c.in_ok-output.ensures })

pub returns-clause-ok : goal.returns-clause-ok
returns-clause-ok g c =
    let asked = asks c.args.package.now.resolve c.args.iface.now c.args.func.now c.args.args.now c.in_ok-func.func _ _
    c.in_ok-func.ensures.named c.in_ok-arguments.ensures.ok c.as_slice.ensures.value in
    let called = answers (g.B.Body.runs c.args.body.now) (g.B.Body.posts c.args.body.now) (g.B.Body.state c.args.body.now) (g.B.Body.state c.call_typed.new.body)
    c.args.package.now.resolve c.in_ok-func.func (map value_of c.as_slice.result.now) (Ok (option_map value_of c.in_ok-answer.answer)) _ _ _ _
    c.in_ok-caller.ensures.fresh c.in_ok-callee.ensures.fresh c.in_ok-answer.ensures.call in
    (_, record { function = c.in_ok-func.func; arguments = map value_of c.as_slice.result.now; asked = asked; answer = option_map value_of c.in_ok-answer.answer; called = called; printed = c.in_ok-output.ensures }, appended _ _ _ _ c.as_bytes.ensures.value c.in_ok-write_bytes.ensures.ok)

pub returns-in_err-output-clause-err : goal.returns-in_err-output-clause-err
returns-in_err-output-clause-err g c =
    let asked = asks c.args.package.now.resolve c.args.iface.now c.args.func.now c.args.args.now c.in_ok-func.func _ _
    c.in_ok-func.ensures.named c.in_ok-arguments.ensures.ok c.as_slice.ensures.value in
    let called = answers (g.B.Body.runs c.args.body.now) (g.B.Body.posts c.args.body.now) (g.B.Body.state c.args.body.now) (g.B.Body.state c.call_typed.new.body)
    c.args.package.now.resolve c.in_ok-func.func (map value_of c.as_slice.result.now) (Ok (option_map value_of c.in_ok-answer.answer)) _ _ _ _
    c.in_ok-caller.ensures.fresh c.in_ok-callee.ensures.fresh c.in_ok-answer.ensures.call in
    let p = err_from_is_err_and c.from_residual-in_err-output.result c.from_residual-in_err-output.ensures.1 in
    rw (p.1, p.2) (c.in_ok-func.func, map value_of c.as_slice.result.now, asked, (Ok (option_map value_of c.in_ok-answer.answer), called, tt {0}))

pub returns-in_err-write_bytes-clause-unbroken : goal.returns-in_err-write_bytes-clause-unbroken
returns-in_err-write_bytes-clause-unbroken g c = λ failed.
    let p = err_from_is_err_and c.from_residual-in_err-write_bytes.result c.from_residual-in_err-write_bytes.ensures.1 in
    p.1 ∙ ap Err (p.2 ∙ c.in_err-write_bytes.ensures.err)

pub returns-in_err-caller-clause-err : goal.returns-in_err-caller-clause-err
returns-in_err-caller-clause-err g c =
    let asked = asks c.args.package.now.resolve c.args.iface.now c.args.func.now c.args.args.now c.in_ok-func.func _ _
    c.in_ok-func.ensures.named c.in_ok-arguments.ensures.ok refl in
    let p = err_from_is_err_and c.from_residual-in_err-caller.result c.from_residual-in_err-caller.ensures.1 in
    rw (p.1, p.2) (c.in_ok-func.func, _, asked, c.in_err-caller.ensures.err)

pub returns-in_err-callee-clause-err : goal.returns-in_err-callee-clause-err
returns-in_err-callee-clause-err g c =
    let asked = asks c.args.package.now.resolve c.args.iface.now c.args.func.now c.args.args.now c.in_ok-func.func _ _
    c.in_ok-func.ensures.named c.in_ok-arguments.ensures.ok refl in
    let p = err_from_is_err_and c.from_residual-in_err-callee.result c.from_residual-in_err-callee.ensures.1 in
    rw (p.1, p.2) (c.in_ok-func.func, _, asked, c.in_err-callee.ensures.err)

pub returns-in_err-answer-clause-err : goal.returns-in_err-answer-clause-err
returns-in_err-answer-clause-err g c =
    let asked = asks c.args.package.now.resolve c.args.iface.now c.args.func.now c.args.args.now c.in_ok-func.func _ _
    c.in_ok-func.ensures.named c.in_ok-arguments.ensures.ok c.as_slice.ensures.value in
    let called = answers (g.B.Body.runs c.args.body.now) (g.B.Body.posts c.args.body.now) (g.B.Body.state c.args.body.now) (g.B.Body.state c.call_typed.new.body)
    c.args.package.now.resolve c.in_ok-func.func (map value_of c.as_slice.result.now) (Err c.in_err-answer.field-0.0) _ _ _ _
    c.in_ok-caller.ensures.fresh c.in_ok-callee.ensures.fresh c.in_err-answer.ensures.call in
    let p = err_from_is_err_and c.from_residual-in_err-answer.result c.from_residual-in_err-answer.ensures.1 in
    rw (p.1, p.2) (call-refuses _ _ _ _ _ _ _ _ _ _ c.in_err-answer.field-0.0 asked called)

pub returns-in_err-answer-clause-not_run : goal.returns-in_err-answer-clause-not_run
returns-in_err-answer-clause-not_run g c =
    let p = err_from_is_err_and c.from_residual-in_err-answer.result c.from_residual-in_err-answer.ensures.1 in
    rw (p.1, p.2) (not-before c.in_err-answer.field-0.0 _)

pub returns-in_err-output-clause-not_run : goal.returns-in_err-output-clause-not_run
returns-in_err-output-clause-not_run g c =
    let p = err_from_is_err_and c.from_residual-in_err-output.result c.from_residual-in_err-output.ensures.1 in
    rw (p.1, p.2) (λ never. absurd never)

pub returns-in_err-write_bytes-clause-not_run : goal.returns-in_err-write_bytes-clause-not_run
returns-in_err-write_bytes-clause-not_run g c =
    let p = err_from_is_err_and c.from_residual-in_err-write_bytes.result c.from_residual-in_err-write_bytes.ensures.1 in
    rw (p.1, p.2, c.in_err-write_bytes.ensures.err) (λ never. absurd never)
