use Rattle.std.proofs.Common.{List, [], All, map, sym, subst, arith}
use Rattle.wit_tokens.specs.View.{path_view, used_view}
use Rattle.wit_tokens.specs.declared.wit_syntax.ast.UsedName.{UsedName}
use Rattle.tree_meaning.specs.Imports.{imports_of}
use Rattle.tree_meaning.specs.Declarations.{used_item}
use Rattle.tree_meaning.specs.Resolves.{IsKnownUseOf}
use Rattle.tree_scopes.specs.Sources.{declared_tree}
use Rattle.package_form.proofs.AllAndContains.{map_map-more, all-append, all-cons, all-none, contains-map, contains-at}
use Rattle.tree_meaning.proofs.NamesFoundInLists.{if-none}
use Rattle.package_form.proofs.NamesMetOneByOne.{all-taken}
use Rattle.tree_names.proofs.unknown.unknown_in_use.Goals as goal

pub returns-in-Some-clause-some : goal.returns-in-Some-clause-some
returns-in-Some-clause-some c =
    let x = c.item-item.result in
    let item = used_item (path_view c.args.path.now) in
    let there = contains-map item _ _ (contains-map used_view c.args.used.now x (contains-at c.args.used.now c.loop-item.item-index x (omega arith) c.item-item.is)) in
    (item (used_view x), there, c.in-Some.ensures.some)

pub loop-item-preserved : goal.loop-item-preserved
loop-item-preserved c =
    let P = IsKnownUseOf (imports_of c.args.tree.now.imports.now.table) (map declared_tree c.args.tree.now.all.now) in
    let x = c.item-item.result in
    let item = used_item (path_view c.args.path.now) in
    let known = if-none c.unknown_used.result _ (λ n e. c.in_default.not-Some n e) c.unknown_used.ensures.none in
    subst (All P) (sym (map_map-more item used_view c.args.used.now c.loop-item.item-index x (omega arith) c.item-item.is))
    (all-append P _ _ c.loop-item.invariant (all-cons P (item (used_view x)) [] known (all-none P)))

pub returns-clause-none : goal.returns-clause-none
returns-clause-none c =
    let P = IsKnownUseOf (imports_of c.args.tree.now.imports.now.table) (map declared_tree c.args.tree.now.all.now) in
    let item = used_item (path_view c.args.path.now) in
    all-taken (λ (us : List UsedName). All P (map item (map used_view us))) c.args.used.now c.loop-item.item-index (omega arith) c.loop-item.invariant
