use Rattle.std.proofs.Common.{Some, ap, sym, arith, ◌∙◌}
use Rattle.std.specs.Option.{option_map}
use Rattle.std.proofs.lemmas.Result.{err_from_is_err_and}
use Rattle.component_reader.specs.Types.{case_read, case_named}
use Rattle.component_reader.proofs.EachElementIsReadOrNone.{found-more, refused-at, refused-part}
use Rattle.component_reader.proofs.types.cases.Goals as goal

pub returns-in_err-optional_type : goal.returns-in_err-optional_type
returns-in_err-optional_type c =
    let p = err_from_is_err_and c.from_residual-in_err-optional_type.result c.from_residual-in_err-optional_type.ensures.1 in
    rw (p.1, p.2) (refused-at (case_read c.args.rows.now) c.args.raw.now c.loop-case.case-index c.case-item.result (omega arith) c.case-item.is c.in_err-optional_type.field-0.0 (refused-part _ _ _ c.in_err-optional_type.ensures))

pub loop-case-preserved : goal.loop-case-preserved
loop-case-preserved c =
    let x = c.case-item.result in
    let read = ap (option_map (case_named x.label)) c.in_ok-optional_type.ensures ∙ ap (λ n. Some (case_named n c.in_ok-optional_type.field-0)) (sym c.in_ok-copy.ensures) in
    found-more (case_read c.args.rows.now) c.args.raw.now c.loop-case.case-index x (omega arith) c.case-item.is c.loop-case.cases.items _ c.loop-case.invariant read
    ∙ ap Some (sym c.in_ok-push.ensures.items)
