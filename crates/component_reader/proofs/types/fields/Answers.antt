use Rattle.std.proofs.Common.{Some, ap, sym, arith, ◌∙◌}
use Rattle.std.specs.Option.{option_map}
use Rattle.std.proofs.lemmas.Result.{err_from_is_err_and}
use Rattle.component_reader.specs.Types.{field_read, field_named}
use Rattle.component_reader.proofs.EachElementIsReadOrNone.{found-more, refused-at, refused-part}
use Rattle.component_reader.proofs.types.fields.Goals as goal

pub returns-in_err-val_type : goal.returns-in_err-val_type
returns-in_err-val_type c =
    let p = err_from_is_err_and c.from_residual-in_err-val_type.result c.from_residual-in_err-val_type.ensures.1 in
    rw (p.1, p.2) (refused-at (field_read c.args.rows.now) c.args.raw.now c.loop-field.field-index c.field-item.result (omega arith) c.field-item.is c.in_err-val_type.field-0.0 (refused-part _ _ _ c.in_err-val_type.ensures))

pub loop-field-preserved : goal.loop-field-preserved
loop-field-preserved c =
    let x = c.field-item.result in
    let read = ap (option_map (field_named x.label)) c.in_ok-val_type.ensures ∙ ap (λ n. Some (field_named n c.in_ok-val_type.field-0)) (sym c.in_ok-copy.ensures) in
    found-more (field_read c.args.rows.now) c.args.raw.now c.loop-field.field-index x (omega arith) c.field-item.is c.loop-field.fields.items _ c.loop-field.invariant read
    ∙ ap Some (sym c.in_ok-push.ensures.items)
