use Rattle.std.proofs.Common.{List, All, Contains, map, flat_map, arith}
use Rattle.wit_tokens.specs.View.{entry_view}
use Rattle.wit_tokens.specs.declared.wit_syntax.ast.InterfaceItem.{InterfaceItem}
use Rattle.tree_meaning.specs.Declarations.{entry_packages}
use Rattle.package_form.proofs.NamesMetOneByOne.{all-taken}
use Rattle.tree_meaning.proofs.NamesFoundInLists.{if-none}
use Rattle.tree_meaning.proofs.PathNames.{all-more, lacking-more}
use Rattle.tree_names.proofs.packages.lacking_in_items.Goals as goal

pub returns-in-Some-clause-some : goal.returns-in-Some-clause-some
returns-in-Some-clause-some c =
    lacking-more c.args.packages.now entry_packages entry_view c.args.items.now c.loop-item.item-index c.item-item.result _ (omega arith) c.item-item.is c.loop-item.invariant c.in-Some.ensures.some

pub loop-item-preserved : goal.loop-item-preserved
loop-item-preserved c =
    let here = if-none c.lacking_in_item.result _ (λ n e. c.in_default.not-Some n e) c.lacking_in_item.ensures.none in
    all-more (Contains c.args.packages.now) entry_packages entry_view c.args.items.now c.loop-item.item-index c.item-item.result (omega arith) c.item-item.is c.loop-item.invariant here

pub returns-clause-none : goal.returns-clause-none
returns-clause-none c =
    all-taken (λ (xs : List InterfaceItem). All (Contains c.args.packages.now) (flat_map entry_packages (map entry_view xs))) c.args.items.now c.loop-item.item-index (omega arith) c.loop-item.invariant
