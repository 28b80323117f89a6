use Rattle.std.proofs.Common.{List, ℕ, Bor, All, IfSome, map, subst, arith}
use Rattle.std.specs.declared.option.Option.{Option}
use Rattle.wit_tokens.specs.View.{world_entry_view}
use Rattle.wit_tokens.specs.declared.wit_syntax.ast.WorldItem.{WorldItem}
use Rattle.tree_meaning.specs.Imports.{imports_of}
use Rattle.tree_meaning.specs.Declarations.{item_tree}
use Rattle.tree_meaning.specs.Resolves.{IsKnownItemOf, IsUnknownItem}
use Rattle.package_form.proofs.AllAndContains.{contains-map, contains-at}
use Rattle.package_form.proofs.NamesMetOneByOne.{all-taken}
use Rattle.tree_names.proofs.unknown.unknown_in_world.Goals as goal

pub returns-in-Some-clause-some : goal.returns-in-Some-clause-some
returns-in-Some-clause-some c =
    let xs = c.args.items.now in
    let x = c.item-item.result in (
      item_tree (world_entry_view x),
      contains-map item_tree (map world_entry_view xs) (world_entry_view x) (contains-map world_entry_view xs x (contains-at xs c.loop-item.item-index x (omega arith) c.item-item.is)),
      subst (λ (o : Option (Bor (List ℕ))). IfSome o (λ m. IsUnknownItem (imports_of c.args.tree.now.imports.now.table) c.args.tree.now.names (item_tree (world_entry_view x)) m.now)) c.in-Some.is c.in_ok-name.ensures.some,
    )

pub returns-clause-none : goal.returns-clause-none
returns-clause-none c =
    all-taken (λ (xs : List WorldItem). All (IsKnownItemOf (imports_of c.args.tree.now.imports.now.table) c.args.tree.now.names) (map item_tree (map world_entry_view xs))) c.args.items.now c.loop-item.item-index (omega arith) c.loop-item.invariant
