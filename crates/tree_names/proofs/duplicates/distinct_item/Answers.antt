use Rattle.std.proofs.Common.{◌++◌, inl, subst, sym}
use Rattle.std.proofs.lemmas.Result.{err_from_is_err_and}
use Rattle.wit_tokens.specs.View.{entry_view}
use Rattle.wit_tokens.specs.declared.wit_syntax.ast.InterfaceItem.{InterfaceItem}
use Rattle.tree_meaning.specs.Declarations.{entry_names}
use Rattle.package_form.specs.Distinct.{AreMet, RefusesNames}
use Rattle.package_form.proofs.NamesMetOneByOne.{met-push, refuses-end, on-ok}
use Rattle.tree_names.proofs.duplicates.distinct_item.Goals as goal

pub returns-in_err-meet-in-TypeDef-clause-err : goal.returns-in_err-meet-in-TypeDef-clause-err
returns-in_err-meet-in-TypeDef-clause-err c =
    let p = err_from_is_err_and c.from_residual.result c.from_residual.ensures.1 in
    let e = c.in_err-meet-in-TypeDef.field-0.0 in
    rw (p.1, p.2) (λ ns h. inl (subst (λ (i : InterfaceItem). RefusesNames (ns ++ entry_names (entry_view i)) e) (sym c.in-TypeDef.is)
    (refuses-end ns c.in-TypeDef.definition.name c.args.scope.now e h c.in_err-meet-in-TypeDef.ensures.err)))

pub returns-in_err-meet-in-Func-clause-err : goal.returns-in_err-meet-in-Func-clause-err
returns-in_err-meet-in-Func-clause-err c =
    let p = err_from_is_err_and c.from_residual-in_err-meet-in-Func.result c.from_residual-in_err-meet-in-Func.ensures.1 in
    let e = c.in_err-meet-in-Func.field-0.0 in
    rw (p.1, p.2) (λ ns h. inl (subst (λ (i : InterfaceItem). RefusesNames (ns ++ entry_names (entry_view i)) e) (sym c.in-Func.is)
    (refuses-end ns c.in-Func.function.name c.args.scope.now e h c.in_err-meet-in-Func.ensures.err)))

pub returns-in_ok-meet-in-TypeDef-clause-names : goal.returns-in_ok-meet-in-TypeDef-clause-names
returns-in_ok-meet-in-TypeDef-clause-names c =
    on-ok c.distinct_parts.result _ (λ ns h. subst (λ (i : InterfaceItem). AreMet (ns ++ entry_names (entry_view i)) c.meet.new.self) (sym c.in-TypeDef.is)
    (met-push ns c.in-TypeDef.definition.name c.args.scope.now c.meet.new.self h c.in_ok-meet-in-TypeDef.ensures.new c.in_ok-meet-in-TypeDef.ensures.ok))

pub returns-in_ok-meet-in-Func-clause-names : goal.returns-in_ok-meet-in-Func-clause-names
returns-in_ok-meet-in-Func-clause-names c =
    on-ok c.distinct_fields.result _ (λ ns h. subst (λ (i : InterfaceItem). AreMet (ns ++ entry_names (entry_view i)) c.meet-in-Func.new.self) (sym c.in-Func.is)
    (met-push ns c.in-Func.function.name c.args.scope.now c.meet-in-Func.new.self h c.in_ok-meet-in-Func.ensures.new c.in_ok-meet-in-Func.ensures.ok))
