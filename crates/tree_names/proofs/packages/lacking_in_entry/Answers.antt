use Rattle.std.proofs.Common.{List, All, Contains, IfNone, IfSome, map, flat_map, sym, subst}
use Rattle.wit_tokens.specs.View.{entry_view, world_entry_view, item_view}
use Rattle.wit_tokens.specs.declared.wit_syntax.ast.Item.{Item}
use Rattle.wit_tokens.specs.declared.wit_syntax.ast.InterfaceItem.{InterfaceItem}
use Rattle.wit_tokens.specs.declared.wit_syntax.ast.WorldItem.{WorldItem}
use Rattle.tree_meaning.specs.Declarations.{entry_packages, world_entry_packages, file_entry_packages}
use Rattle.tree_meaning.specs.Finished.{header_name}
use Rattle.tree_meaning.specs.Resolves.{IsLacking}
use Rattle.tree_names.proofs.packages.lacking_in_entry.Goals as goal

pub returns-in-Interface-clause-none : goal.returns-in-Interface-clause-none
returns-in-Interface-clause-none c =
    let ps = c.args.packages.now in
    let r = c.lacking_in_items.result in
    subst (λ (i : Item). IfNone r (All (Contains ps) (file_entry_packages (item_view i)))) (sym c.in-Interface.is)
    (subst (λ (is : List InterfaceItem). IfNone r (All (Contains ps) (flat_map entry_packages (map entry_view is)))) c.deref.ensures.value c.lacking_in_items.ensures.none)

pub returns-in-Interface-clause-some : goal.returns-in-Interface-clause-some
returns-in-Interface-clause-some c =
    let ps = c.args.packages.now in
    let r = c.lacking_in_items.result in
    subst (λ (i : Item). IfSome r (λ p. IsLacking ps (file_entry_packages (item_view i)) (header_name p.now))) (sym c.in-Interface.is)
    (subst (λ (is : List InterfaceItem). IfSome r (λ p. IsLacking ps (flat_map entry_packages (map entry_view is)) (header_name p.now))) c.deref.ensures.value c.lacking_in_items.ensures.some)

pub returns-in-World-clause-none : goal.returns-in-World-clause-none
returns-in-World-clause-none c =
    let ps = c.args.packages.now in
    let r = c.lacking_in_world.result in
    subst (λ (i : Item). IfNone r (All (Contains ps) (file_entry_packages (item_view i)))) (sym c.in-World.is)
    (subst (λ (is : List WorldItem). IfNone r (All (Contains ps) (flat_map world_entry_packages (map world_entry_view is)))) c.deref-in-World.ensures.value c.lacking_in_world.ensures.none)

pub returns-in-World-clause-some : goal.returns-in-World-clause-some
returns-in-World-clause-some c =
    let ps = c.args.packages.now in
    let r = c.lacking_in_world.result in
    subst (λ (i : Item). IfSome r (λ p. IsLacking ps (file_entry_packages (item_view i)) (header_name p.now))) (sym c.in-World.is)
    (subst (λ (is : List WorldItem). IfSome r (λ p. IsLacking ps (flat_map world_entry_packages (map world_entry_view is)) (header_name p.now))) c.deref-in-World.ensures.value c.lacking_in_world.ensures.some)
