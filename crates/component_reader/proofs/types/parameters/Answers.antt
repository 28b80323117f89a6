use Rattle.std.proofs.Common.{Some, ap, sym, arith, ◌∙◌}
use Rattle.std.specs.Option.{option_map}
use Rattle.std.proofs.lemmas.Result.{err_from_is_err_and}
use Rattle.component_reader.specs.Types.{parameter_read, parameter_named}
use Rattle.component_reader.proofs.EachElementIsReadOrNone.{found-more, refused-at, refused-part}
use Rattle.component_reader.proofs.types.parameters.Goals as goal

pub returns-in_err-val_type : goal.returns-in_err-val_type
returns-in_err-val_type c =
    let p = err_from_is_err_and c.from_residual-in_err-val_type.result c.from_residual-in_err-val_type.ensures.1 in
    rw (p.1, p.2) (refused-at (parameter_read c.args.rows.now) c.args.raw.now c.loop-param.param-index c.param-item.result (omega arith) c.param-item.is c.in_err-val_type.field-0.0 (refused-part _ _ _ c.in_err-val_type.ensures))

pub loop-param-preserved : goal.loop-param-preserved
loop-param-preserved c =
    let x = c.param-item.result in
    let read = ap (option_map (parameter_named x.label)) c.in_ok-val_type.ensures ∙ ap (λ n. Some (parameter_named n c.in_ok-val_type.field-0)) (sym c.in_ok-copy.ensures) in
    found-more (parameter_read c.args.rows.now) c.args.raw.now c.loop-param.param-index x (omega arith) c.param-item.is c.loop-param.params.items _ c.loop-param.invariant read
    ∙ ap Some (sym c.in_ok-push.ensures.items)
