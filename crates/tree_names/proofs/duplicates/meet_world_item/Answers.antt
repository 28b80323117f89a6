use Rattle.std.proofs.Common.{◌∙◌, inl, sym}
use Rattle.std.proofs.lemmas.Result.{err_from_is_err_and}
use Rattle.package_names.proofs.WorldItemNamesAreMet.{item-met, item-refused}
use Rattle.tree_names.proofs.WorldScopes.{side-told}
use Rattle.tree_names.proofs.duplicates.meet_world_item.Goals as goal

pub returns-in_err-name-clause-err : goal.returns-in_err-name-clause-err
returns-in_err-name-clause-err c =
    let p = err_from_is_err_and c.from_residual.result c.from_residual.ensures.1 in
    rw (p.1, p.2) (λ items h. inl tt)

pub returns-clause-ok : goal.returns-clause-ok
returns-clause-ok c =
    item-met c.meet.result _ _ _ _ _ (side-told c.args.«package».now c.args.item.now ∙ sym c.side_of.ensures) (sym c.in_ok-name.ensures) c.meet.ensures.ok

pub returns-clause-err : goal.returns-clause-err
returns-clause-err c =
    item-refused c.meet.result _ _ _ _ (side-told c.args.«package».now c.args.item.now ∙ sym c.side_of.ensures) (sym c.in_ok-name.ensures) c.meet.ensures.err
