use Rattle.std.proofs.Common.{◌≡◌, ◌∙◌, Some, sym, subst}
use Rattle.wit_tokens.specs.View.{path_view, world_kind_view}
use Rattle.wit_tokens.specs.declared.wit_syntax.ast.WorldItemKind.{WorldItemKind}
use Rattle.tables.specs.declared.tables.WorldItemKind.TheVariants as table
use Rattle.tree_meaning.specs.Declarations.{item_tree}
use Rattle.tree_meaning.specs.Resolved.{tree_item_meaning}
use Rattle.tree_meaning.specs.Resolves.{IsKnownItemOf, path_place}
use Rattle.tree_meaning.specs.WorldRows.{DefinesItem}
use Rattle.tree_rows.proofs.PathRows.{item-there, path-defined}
use Rattle.tree_meaning.specs.Imports.{interfaces_of, imports_of}
use Rattle.tree_rows.proofs.worlds.define_item.Goals as goal

pub unreachable-requires : goal.unreachable-requires
unreachable-requires c =
    let way = c.args.item.now.direction in
    let known = subst (λ (k : WorldItemKind). IsKnownItemOf (imports_of c.args.plan.now.imports.now) c.args.plan.now.names.now (item_tree (world_kind_view way k))) c.in-Interface.is c.requires.known in
    absurd (item-there c.args.plan.now.imports.now c.args.plan.now.names.now way (path_view c.in-Interface.path) known (sym c.in_ok-place-in-Interface.ensures.ok ∙ c.in-None.is))

pub returns-in_ok-interface_id-in-Some : goal.returns-in_ok-interface_id-in-Some
returns-in_ok-interface_id-in-Some c =
    let old = c.args.builder.now in
    let way = c.args.item.now.direction in
    let p = path_view c.in-Interface.path in
    let id = c.in_ok-interface_id-in-Some.field-0 in
    let found : path_place (interfaces_of c.args.plan.now.imports.now) c.args.plan.now.names.now p ≡ Some c.in-Some.place = sym c.in_ok-place-in-Interface.ensures.ok ∙ c.in-Some.is in
    let made = path-defined c.args.plan.now.imports.now c.args.plan.now.names.now old c.args.world.0 way c.side_of-direction.result p id c.in-Some.place c.requires.names c.side_of-direction.ensures c.in_ok-interface_id-in-Some.ensures.ok found in
    subst (λ (k : WorldItemKind). DefinesItem old old c.args.world.0 (record { direction = c.side_of-direction.result; kind = table.Interface id }) (tree_item_meaning (item_tree (world_kind_view way k))))
    (sym c.in-Interface.is) made
