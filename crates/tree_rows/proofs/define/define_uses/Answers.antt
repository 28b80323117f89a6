use Rattle.std.proofs.Common.{arith}
use Rattle.tree_scopes.specs.Lent.{used_item_of}
use Rattle.tree_meaning.specs.Imports.{interfaces_of}
use Rattle.tree_rows.specs.Defining.{CanUse}
use Rattle.package_form.proofs.AllAndContains.{all_map-at}
use Rattle.tree_rows.proofs.OneDefinitionMore.{can_use-later, scopes-later}
use Rattle.tree_rows.proofs.define.define_uses.Goals as goal

pub target-requires-clause-known : goal.target-requires-clause-known
target-requires-clause-known c =
    let u = c.used-item.result in
    can_use-later (interfaces_of c.args.plan.now.imports.now) c.args.plan.now.names.now c.args.builder.now c.loop-used.builder c.args.scopes.now (used_item_of u) c.loop-used.invariant.adds.front
    (all_map-at (CanUse (interfaces_of c.args.plan.now.imports.now) c.args.plan.now.names.now c.args.builder.now c.args.scopes.now) used_item_of c.args.uses.now c.loop-used.used-index u c.requires.known (omega arith) c.used-item.is)

pub target-requires-clause-scoped : goal.target-requires-clause-scoped
target-requires-clause-scoped c = scopes-later c.args.builder.now c.loop-used.builder c.args.scopes.now c.loop-used.invariant.adds.front c.requires.others
