use Rattle.std.proofs.Common.{List, ℕ, All, OnOk, IfErr, map, sym, subst}
use Rattle.wit_tokens.specs.View.{item_view, entry_view}
use Rattle.wit_tokens.specs.declared.wit_syntax.ast.Item.{Item}
use Rattle.wit_tokens.specs.declared.wit_syntax.ast.WorldItem.{WorldItem}
use Rattle.wit_tokens.specs.declared.wit_syntax.ast.InterfaceItem.{InterfaceItem}
use Rattle.package_form.specs.Scope.{AreDistinct}
use Rattle.package_form.specs.Distinct.{RefusesScopes}
use Rattle.package_form.specs.Naming.{world_scopes}
use Rattle.tree_meaning.specs.Declarations.{item_scopes}
use Rattle.tree_meaning.specs.Scopes.{interface_scopes}
use Rattle.tree_scopes.specs.Sources.{world_in}
use Rattle.tree_names.proofs.WorldScopes.{scopes-are}
use Rattle.tree_names.proofs.duplicates.distinct_inside.Goals as goal

pub returns-in-Interface-clause-ok : goal.returns-in-Interface-clause-ok
returns-in-Interface-clause-ok c =
    subst (λ (i : Item). OnOk c.distinct_items.result (All AreDistinct (interface_scopes c.args.«package».now (item_view i)))) (sym c.in-Interface.is)
    (subst (λ (is : List InterfaceItem). OnOk c.distinct_items.result (All AreDistinct (item_scopes (map entry_view is)))) c.deref.ensures.value c.distinct_items.ensures.ok)

pub returns-in-Interface-clause-err : goal.returns-in-Interface-clause-err
returns-in-Interface-clause-err c =
    subst (λ (i : Item). IfErr c.distinct_items.result (RefusesScopes (interface_scopes c.args.«package».now (item_view i)))) (sym c.in-Interface.is)
    (subst (λ (is : List InterfaceItem). IfErr c.distinct_items.result (RefusesScopes (item_scopes (map entry_view is)))) c.deref.ensures.value c.distinct_items.ensures.err)

pub returns-in-World-clause-ok : goal.returns-in-World-clause-ok
returns-in-World-clause-ok c =
    let p = c.args.«package».now in
    let w = c.in-World.world in
    subst (λ (i : Item). OnOk c.distinct_world_items.result (All AreDistinct (interface_scopes p (item_view i)))) (sym c.in-World.is)
    (subst (λ (ss : List (List (List ℕ))). OnOk c.distinct_world_items.result (All AreDistinct ss)) (scopes-are p w.name w.items.items)
    (subst (λ (is : List WorldItem). OnOk c.distinct_world_items.result (All AreDistinct (world_scopes (world_in p is)))) c.deref-in-World.ensures.value c.distinct_world_items.ensures.ok))

pub returns-in-World-clause-err : goal.returns-in-World-clause-err
returns-in-World-clause-err c =
    let p = c.args.«package».now in
    let w = c.in-World.world in
    subst (λ (i : Item). IfErr c.distinct_world_items.result (RefusesScopes (interface_scopes p (item_view i)))) (sym c.in-World.is)
    (subst (λ (ss : List (List (List ℕ))). IfErr c.distinct_world_items.result (RefusesScopes ss)) (scopes-are p w.name w.items.items)
    (subst (λ (is : List WorldItem). IfErr c.distinct_world_items.result (RefusesScopes (world_scopes (world_in p is)))) c.deref-in-World.ensures.value c.distinct_world_items.ensures.err))
