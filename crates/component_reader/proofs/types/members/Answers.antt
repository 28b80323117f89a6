use Rattle.std.proofs.Common.{Some, ap, sym, arith, ◌∙◌}
use Rattle.std.proofs.lemmas.Result.{err_from_is_err_and}
use Rattle.component_reader.specs.Types.{val_type}
use Rattle.component_reader.proofs.EachElementIsReadOrNone.{found-next, refused-next}
use Rattle.component_reader.proofs.types.members.Goals as goal

pub returns-in_err-val_type : goal.returns-in_err-val_type
returns-in_err-val_type c =
    let p = err_from_is_err_and c.from_residual-in_err-val_type.result c.from_residual-in_err-val_type.ensures.1 in
    rw (p.1, p.2) (refused-next (val_type c.args.rows.now) c.args.types.now c.loop-ty.ty-index _ (omega arith) c.in_err-val_type.field-0.0 c.in_err-val_type.ensures)

pub loop-ty-preserved : goal.loop-ty-preserved
loop-ty-preserved c =
    found-next (val_type c.args.rows.now) c.args.types.now c.loop-ty.ty-index _ (omega arith) c.loop-ty.members.items _ c.loop-ty.invariant c.in_ok-val_type.ensures
    ∙ ap Some (sym c.in_ok-push.ensures.items)
