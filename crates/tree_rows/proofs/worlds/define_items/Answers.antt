use Rattle.std.proofs.Common.{◌∙◌, arith}
use Rattle.tree_meaning.specs.Resolved.{tree_item_meaning}
use Rattle.tree_meaning.specs.Resolves.{IsKnownItemOf}
use Rattle.tree_scopes.specs.Sources.{declared_item}
use Rattle.package_form.proofs.AllAndContains.{all_map-at, map_map-more}
use Rattle.tree_rows.proofs.DefinedWorlds.{items-none, items-more}
use Rattle.tree_meaning.specs.Imports.{imports_of}
use Rattle.tree_rows.proofs.worlds.define_items.Goals as goal

pub loop-item-init : goal.loop-item-init
loop-item-init c = rw c.in_ok-defined.ensures.items (items-none c.args.builder.now c.args.world.0)

pub define_item-requires-clause-known : goal.define_item-requires-clause-known
define_item-requires-clause-known c =
    all_map-at (IsKnownItemOf (imports_of c.args.plan.now.imports.now) c.args.plan.now.names.now) declared_item c.args.items.now c.loop-item.item-index c.item-item.result c.requires.known (omega arith) c.item-item.is

pub define_item-requires-clause-names : goal.define_item-requires-clause-names
define_item-requires-clause-names c = c.loop-item.invariant.adds.front.interfaces ∙ c.requires.names

pub loop-item-preserved : goal.loop-item-preserved
loop-item-preserved c =
    let x = c.item-item.result in
    let more = items-more c.args.builder.now c.loop-item.builder c.define_item.new.builder c.args.world.0 c.loop-item.defined.items _ c.in_ok-item.item _ c.loop-item.invariant c.in_ok-item.ensures in
    rw (c.in_ok-push.ensures.items, map_map-more tree_item_meaning declared_item c.args.items.now c.loop-item.item-index x (omega arith) c.item-item.is) more
