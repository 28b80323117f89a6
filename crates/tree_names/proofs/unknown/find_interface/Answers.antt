use Rattle.std.proofs.Common.{◌∙◌, get_or, sym, subst, arith, Contains}
use Rattle.std.proofs.lemmas.List.{get_or_default}
use Rattle.tree_scopes.specs.Sources.{declared_tree}
use Rattle.tree_scopes.specs.declared.declared.Declarations.{Declarations}
use Rattle.package_form.proofs.AllAndContains.{contains-map, contains-at}
use Rattle.tree_scopes.proofs.DeclaredTrees.{place-in, interface-there}
use Rattle.tree_meaning.proofs.NamesFoundInLists.{place-lacks}
use Rattle.tree_names.proofs.unknown.find_interface.Goals as goal

pub bounds-tree-place : goal.bounds-tree-place
bounds-tree-place c = place-in c.args.tree.now.all.now c.args.tree.now.names c.args.name.now c.in-Some.place c.args.tree.now.named (sym c.place_of.ensures ∙ c.in-Some.is)

pub offset_bounds-tree-place : goal.offset_bounds-tree-place
offset_bounds-tree-place c =
    omega (arith, place-in c.args.tree.now.all.now c.args.tree.now.names c.args.name.now c.in-Some.place c.args.tree.now.named (sym c.place_of.ensures ∙ c.in-Some.is))

pub returns-in-Some-clause-some : goal.returns-in-Some-clause-some
returns-in-Some-clause-some c =
    let all = c.args.tree.now.all.now in
    let place = c.in-Some.place in
    let e = sym c.place_of.ensures ∙ c.in-Some.is in
    let below = place-in all c.args.tree.now.names c.args.name.now place c.args.tree.now.named e in
    let d : Declarations = get_or all place c.index-tree-place.result in
    let is = get_or_default all place c.index-tree-place.result d below in (
      contains-map declared_tree all d (contains-at all place d below is),
      interface-there all c.args.tree.now.names c.args.name.now place d c.args.tree.now.named e is,
    )

pub returns-in-None-clause-none : goal.returns-in-None-clause-none
returns-in-None-clause-none c = subst (λ ns. ¬ Contains ns c.args.name.now) c.args.tree.now.named (place-lacks c.args.tree.now.names c.args.name.now (sym c.place_of.ensures ∙ c.in-None.is))
