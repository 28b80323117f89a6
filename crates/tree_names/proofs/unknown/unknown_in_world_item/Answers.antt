use Rattle.std.proofs.Common.{ℕ, List, sym, subst}
use Rattle.wit_tokens.specs.View.{path_view, world_entry_view}
use Rattle.wit_tokens.specs.declared.wit_syntax.ast.WorldItemKind.{WorldItemKind}
use Rattle.wit_tokens.specs.declared.wit_syntax.ast.WorldItemKind.TheVariants as world
use Rattle.tree_meaning.specs.Imports.{imports_of}
use Rattle.tree_meaning.specs.Declarations.{item_tree}
use Rattle.tree_meaning.specs.Resolves.{IsKnownItemOf, IsUnknownItem}
use Rattle.tree_meaning.proofs.PathNames.{item-known, item-unknown}
use Rattle.tree_names.proofs.unknown.unknown_in_world_item.Goals as goal

pub returns-then-is_there-clause-none : goal.returns-then-is_there-clause-none
returns-then-is_there-clause-none c =
    let m = imports_of c.args.tree.now.imports.now.table in
    let way = c.args.item.now.direction in
    let there = c.is_there.ensures.0 c.if-is_there.true in
    subst (λ (k : WorldItemKind). IsKnownItemOf m c.args.tree.now.names (item_tree (world_entry_view (record { direction = way; kind = k })))) (sym c.in-Interface.is)
    (item-known m c.args.tree.now.names way (path_view c.in-Interface.path) there)

pub returns-else-is_there-clause-some : goal.returns-else-is_there-clause-some
returns-else-is_there-clause-some c =
    let m = imports_of c.args.tree.now.imports.now.table in
    let way = c.args.item.now.direction in
    subst (λ (k : WorldItemKind). IsUnknownItem m c.args.tree.now.names (item_tree (world_entry_view (record { direction = way; kind = k }))) c.interface_label.result.now) (sym c.in-Interface.is)
    (subst (λ (n : List ℕ). IsUnknownItem m c.args.tree.now.names (item_tree (world_entry_view (record { direction = way; kind = world.Interface c.in-Interface.path }))) n) (sym c.interface_label.ensures)
    (item-unknown m c.args.tree.now.names way (path_view c.in-Interface.path) (λ h. let t = c.is_there.ensures.1 h in absurd (cc (t, c.if-is_there.false)))))
