use Rattle.std.proofs.Common.{List, ℕ, Bor, ap, sym, subst, ◌∙◌, IfNone, IfSome, map}
use Rattle.wit_tokens.specs.View.{entry_view}
use Rattle.wit_tokens.specs.declared.wit_syntax.ast.InterfaceItem.{InterfaceItem}
use Rattle.tree_meaning.specs.Imports.{imports_of}
use Rattle.tree_scopes.specs.Lent.{lent_names}
use Rattle.tree_scopes.specs.Sources.{declared_tree}
use Rattle.tree_meaning.specs.Knowing.{KnowsEntry, LacksEntry}
use Rattle.tree_meaning.proofs.NamesFoundInLists.{none-map, some-map}
use Rattle.tree_scopes.proofs.DeclaredTrees.{knows-all, lacks-name}
use Rattle.tree_names.proofs.unknown.unknown_in_item.Goals as goal

pub returns-in_ok-list_definition-in-TypeDef-clause-none : goal.returns-in_ok-list_definition-in-TypeDef-clause-none
returns-in_ok-list_definition-in-TypeDef-clause-none c =
    let d = c.args.declared.now in
    let names = ap lent_names c.deref-in-TypeDef.ensures.value ∙ c.in_ok-list_definition-in-TypeDef.ensures in
    subst (λ (i : InterfaceItem). IfNone c.first_unknown.result (KnowsEntry (imports_of c.args.tree.now.imports.now.table) (map declared_tree c.args.tree.now.all.now) (declared_tree d) (entry_view i))) (sym c.in-TypeDef.is)
    (none-map c.first_unknown.result _ _ (λ h. knows-all d c.deref-in-TypeDef.result.now _ names h) c.first_unknown.ensures.none)

pub returns-in_ok-list_function-in-Func-clause-none : goal.returns-in_ok-list_function-in-Func-clause-none
returns-in_ok-list_function-in-Func-clause-none c =
    let d = c.args.declared.now in
    let names = ap lent_names c.deref-in-Func.ensures.value ∙ c.in_ok-list_function-in-Func.ensures in
    subst (λ (i : InterfaceItem). IfNone c.first_unknown-in-Func.result (KnowsEntry (imports_of c.args.tree.now.imports.now.table) (map declared_tree c.args.tree.now.all.now) (declared_tree d) (entry_view i))) (sym c.in-Func.is)
    (none-map c.first_unknown-in-Func.result _ _ (λ h. knows-all d c.deref-in-Func.result.now _ names h) c.first_unknown-in-Func.ensures.none)

pub returns-in_ok-list_function-in-Func-clause-some : goal.returns-in_ok-list_function-in-Func-clause-some
returns-in_ok-list_function-in-Func-clause-some c =
    let d = c.args.declared.now in
    let names = ap lent_names c.deref-in-Func.ensures.value ∙ c.in_ok-list_function-in-Func.ensures in
    subst (λ (i : InterfaceItem). IfSome c.first_unknown-in-Func.result (λ m. LacksEntry (imports_of c.args.tree.now.imports.now.table) (map declared_tree c.args.tree.now.all.now) (declared_tree d) (entry_view i) m.now)) (sym c.in-Func.is)
    (some-map c.first_unknown-in-Func.result _ _ (λ (m : Bor (List ℕ)) h. lacks-name d c.deref-in-Func.result.now _ m.now names h) c.first_unknown-in-Func.ensures.some)
