use Rattle.std.proofs.Common.{◌∙◌, ℕ, List, map, ap, sym, subst}
use Rattle.std.proofs.lemmas.Simd.{map-map}
use Rattle.std.specs.Prelude.{All}
use Rattle.wit_tokens.specs.View.{world_entry_view}
use Rattle.tree_meaning.specs.Declarations.{ItemTree, item_tree}
use Rattle.tree_meaning.specs.Resolved.{tree_item_meaning, meaning_of_world}
use Rattle.tree_meaning.specs.Resolves.{IsKnownItemOf}
use Rattle.tree_scopes.specs.Sources.{declared_item, declared_world}
use Rattle.tree_meaning.specs.WorldRows.{DefinesWorld}
use Rattle.tree_rows.proofs.DefinedWorlds.{world-defined}
use Rattle.tree_meaning.specs.Imports.{imports_of}
use Rattle.tree_rows.proofs.worlds.define_world.Goals as goal

pub define_items-requires-clause-known : goal.define_items-requires-clause-known
define_items-requires-clause-known c =
    subst (λ (is : List ItemTree). All (IsKnownItemOf (imports_of c.args.plan.now.imports.now) c.args.plan.now.names.now) is) (map-map item_tree world_entry_view c.args.world.now.items.items ∙ sym (ap (map declared_item) c.deref.ensures.value)) c.requires.known

pub returns : goal.returns
returns c =
    let items = c.args.world.now.items.items in
    let old = c.args.builder.now in
    let new = c.define_items.new.builder in
    let own = c.in_ok-package.«package» in
    let meant = ap (map tree_item_meaning) (ap (map declared_item) c.deref.ensures.value ∙ sym (map-map item_tree world_entry_view items)) in
    let made = world-defined own old new c.args.id.0 c.in_ok-copy.field-0 c.args.world.now.name c.in_ok-items.items.items c.new.result _ _ c.in_ok-copy.ensures c.new.ensures meant c.in_ok-items.ensures in
    subst (λ (n : ℕ). DefinesWorld old new n c.args.id.0 (record { «package» = own; name = c.in_ok-copy.field-0; items = c.new.result }) (meaning_of_world (declared_world c.args.world.now))) c.in_ok-package.ensures.ok made
