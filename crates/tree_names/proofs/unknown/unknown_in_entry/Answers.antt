use Rattle.std.proofs.Common.{◌≡◌, List, ℕ, Bor, All, IfOk, IfNone, IfSome, map, get_or, ap, sym, subst, ◌∙◌, arith}
use Rattle.std.proofs.lemmas.List.{get_or_default}
use Rattle.wit_tokens.specs.View.{item_view, entry_view, world_entry_view}
use Rattle.wit_tokens.specs.declared.wit_syntax.ast.Item.{Item}
use Rattle.wit_tokens.specs.declared.wit_syntax.ast.InterfaceItem.{InterfaceItem}
use Rattle.wit_tokens.specs.declared.wit_syntax.ast.WorldItem.{WorldItem}
use Rattle.tree_meaning.specs.Imports.{imports_of}
use Rattle.tree_meaning.specs.Declarations.{InterfaceTree, interface_of, interface_tree, item_tree}
use Rattle.tree_meaning.specs.Resolves.{HasKnownNamesOf, IsUnknownIn, IsKnownItemOf}
use Rattle.tree_meaning.specs.Knowing.{KnowsFileEntry, LacksFileEntry, LacksItem}
use Rattle.tree_scopes.specs.Sources.{declared_tree}
use Rattle.tree_scopes.specs.declared.declared.Declarations.{Declarations}
use Rattle.tree_meaning.proofs.NamesFoundInLists.{interface-known, interface-lacks, none-map, some-map}
use Rattle.tree_scopes.proofs.DeclaredTrees.{tree-at}
use Rattle.tree_meaning.proofs.PackageOfAFile.{ok-map}
use Rattle.tree_names.proofs.unknown.unknown_in_entry.Goals as goal

pub bounds-tree-place : goal.bounds-tree-place
bounds-tree-place c = (c.requires _ (ap (λ (i : Item). interface_of (item_view i)) c.in-Interface.is)).0

pub offset_bounds-tree-place : goal.offset_bounds-tree-place
offset_bounds-tree-place c = let l = (c.requires _ (ap (λ (i : Item). interface_of (item_view i)) c.in-Interface.is)).0 in omega (arith, l)

pub returns-in-Interface-clause-none : goal.returns-in-Interface-clause-none
returns-in-Interface-clause-none c =
    let is = map declared_tree c.args.tree.now.all.now in
    let x = c.in-Interface.interface in
    let p = c.requires _ (ap (λ (i : Item). interface_of (item_view i)) c.in-Interface.is) in
    let d : Declarations = get_or c.args.tree.now.all.now c.args.place c.index-tree-place.result in
    let at = get_or_default c.args.tree.now.all.now c.args.place c.index-tree-place.result d p.0 in
    let here : declared_tree d ≡ interface_tree x.name (map entry_view x.items.items) = sym (tree-at c.args.tree.now.all.now c.args.place d p.0 at) ∙ p.1 in
    let same = here ∙ ap (λ (es : List InterfaceItem). interface_tree x.name (map entry_view es)) (sym c.deref.ensures.value) in
    subst (λ (i : Item). IfOk c.unknown_in_items.result (λ o. IfNone o (KnowsFileEntry (imports_of c.args.tree.now.imports.now.table) is (item_view i)))) (sym c.in-Interface.is)
    (ok-map c.unknown_in_items.result _ _
    (λ o h. none-map o _ _ (λ k. subst (HasKnownNamesOf (imports_of c.args.tree.now.imports.now.table) is) here (interface-known (imports_of c.args.tree.now.imports.now.table) is (declared_tree d) x.name (map entry_view c.deref.result.now) same k)) h)
    c.unknown_in_items.ensures.none)

pub returns-in-Interface-clause-some : goal.returns-in-Interface-clause-some
returns-in-Interface-clause-some c =
    let is = map declared_tree c.args.tree.now.all.now in
    let x = c.in-Interface.interface in
    let p = c.requires _ (ap (λ (i : Item). interface_of (item_view i)) c.in-Interface.is) in
    let d : Declarations = get_or c.args.tree.now.all.now c.args.place c.index-tree-place.result in
    let at = get_or_default c.args.tree.now.all.now c.args.place c.index-tree-place.result d p.0 in
    let here : declared_tree d ≡ interface_tree x.name (map entry_view x.items.items) = sym (tree-at c.args.tree.now.all.now c.args.place d p.0 at) ∙ p.1 in
    let same = here ∙ ap (λ (es : List InterfaceItem). interface_tree x.name (map entry_view es)) (sym c.deref.ensures.value) in
    subst (λ (i : Item). IfOk c.unknown_in_items.result (λ o. IfSome o (λ m. LacksFileEntry (imports_of c.args.tree.now.imports.now.table) is (item_view i) m.now))) (sym c.in-Interface.is)
    (ok-map c.unknown_in_items.result _ _
    (λ o h. some-map o _ _
    (λ (m : Bor (List ℕ)) k. subst (λ (t : InterfaceTree). IsUnknownIn (imports_of c.args.tree.now.imports.now.table) is t m.now) here (interface-lacks (imports_of c.args.tree.now.imports.now.table) is (declared_tree d) x.name (map entry_view c.deref.result.now) m.now same k)) h)
    c.unknown_in_items.ensures.some)

pub returns-in-World-clause-none : goal.returns-in-World-clause-none
returns-in-World-clause-none c =
    let is = map declared_tree c.args.tree.now.all.now in
    let r = c.unknown_in_world.result in
    subst (λ (i : Item). IfOk r (λ o. IfNone o (KnowsFileEntry (imports_of c.args.tree.now.imports.now.table) is (item_view i)))) (sym c.in-World.is)
    (subst (λ (ns : List (List ℕ)). IfOk r (λ o. IfNone o (All (IsKnownItemOf (imports_of c.args.tree.now.imports.now.table) ns) (map item_tree (map world_entry_view c.in-World.world.items.items))))) c.args.tree.now.named
    (subst (λ (ws : List WorldItem). IfOk r (λ o. IfNone o (All (IsKnownItemOf (imports_of c.args.tree.now.imports.now.table) c.args.tree.now.names) (map item_tree (map world_entry_view ws))))) c.deref-in-World.ensures.value c.unknown_in_world.ensures.none))

pub returns-in-World-clause-some : goal.returns-in-World-clause-some
returns-in-World-clause-some c =
    let is = map declared_tree c.args.tree.now.all.now in
    let r = c.unknown_in_world.result in
    subst (λ (i : Item). IfOk r (λ o. IfSome o (λ m. LacksFileEntry (imports_of c.args.tree.now.imports.now.table) is (item_view i) m.now))) (sym c.in-World.is)
    (subst (λ (ns : List (List ℕ)). IfOk r (λ o. IfSome o (λ m. LacksItem (imports_of c.args.tree.now.imports.now.table) ns (map item_tree (map world_entry_view c.in-World.world.items.items)) m.now))) c.args.tree.now.named
    (subst (λ (ws : List WorldItem). IfOk r (λ o. IfSome o (λ m. LacksItem (imports_of c.args.tree.now.imports.now.table) c.args.tree.now.names (map item_tree (map world_entry_view ws)) m.now))) c.deref-in-World.ensures.value c.unknown_in_world.ensures.some))
