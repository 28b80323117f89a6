use Rattle.std.proofs.Common.{List, ℕ, OnOk, IfErr, map, sym, subst}
use Rattle.wit_tokens.specs.View.{field_view}
use Rattle.wit_tokens.specs.declared.wit_syntax.ast.Field.{Field}
use Rattle.wit_tokens.specs.declared.wit_syntax.ast.WorldItemKind.{WorldItemKind}
use Rattle.package_form.specs.Scope.{AreDistinct}
use Rattle.package_form.specs.Distinct.{RefusesNames}
use Rattle.package_form.specs.Naming.{item_parameters}
use Rattle.tree_meaning.specs.Declarations.{member_name}
use Rattle.tree_scopes.specs.Sources.{item_in}
use Rattle.tree_meaning.proofs.NamesOfScopeAreApart.{none-distinct}
use Rattle.tree_names.proofs.WorldScopes.{no-parameters, labels-meant}
use Rattle.tree_names.proofs.duplicates.distinct_item_parameters.Goals as goal

pub returns-in-Func-clause-ok : goal.returns-in-Func-clause-ok
returns-in-Func-clause-ok c = λ p.
    let r = c.distinct_fields.result in
    let ps = c.in-Func.function.ty.params.items in
    subst (λ (k : WorldItemKind). OnOk r (AreDistinct (item_parameters (item_in p (record { direction = c.args.item.now.direction; kind = k }))))) (sym c.in-Func.is)
    (subst (λ (ns : List (List ℕ)). OnOk r (AreDistinct ns)) (sym (labels-meant _ (map field_view ps)))
    (subst (λ (fs : List Field). OnOk r (AreDistinct (map member_name (map field_view fs)))) c.deref.ensures.value c.distinct_fields.ensures.ok))

pub returns-in-Func-clause-err : goal.returns-in-Func-clause-err
returns-in-Func-clause-err c = λ p.
    let r = c.distinct_fields.result in
    let ps = c.in-Func.function.ty.params.items in
    subst (λ (k : WorldItemKind). IfErr r (RefusesNames (item_parameters (item_in p (record { direction = c.args.item.now.direction; kind = k }))))) (sym c.in-Func.is)
    (subst (λ (ns : List (List ℕ)). IfErr r (RefusesNames ns)) (sym (labels-meant _ (map field_view ps)))
    (subst (λ (fs : List Field). IfErr r (RefusesNames (map member_name (map field_view fs)))) c.deref.ensures.value c.distinct_fields.ensures.err))

pub returns-in-Interface-clause-ok : goal.returns-in-Interface-clause-ok
returns-in-Interface-clause-ok c = λ p.
    let way = c.args.item.now.direction in
    subst (λ (k : WorldItemKind). AreDistinct (item_parameters (item_in p (record { direction = way; kind = k })))) (sym c.in-Interface.is)
    (subst AreDistinct (sym (no-parameters p way c.in-Interface.field-0)) none-distinct)
