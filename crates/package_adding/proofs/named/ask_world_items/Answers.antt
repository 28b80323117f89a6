use Rattle.std.proofs.Common.{List, map, take}
use Rattle.wit_tokens.specs.View.{world_entry_view}
use Rattle.wit_tokens.specs.declared.wit_syntax.ast.WorldItem.{WorldItem}
use Rattle.package_form.proofs.NamesMetOneByOne.{all-taken}
use Rattle.package_adding.specs.Named.{world_entry_names, any_names}
use Rattle.package_adding.specs.Asked.{also, AreAsked}
use Rattle.package_adding.proofs.NamesAskedOfSets.{asked-none, asked-more}
use Rattle.package_adding.proofs.named.ask_world_items.Goals as goal

pub loop-item-init : goal.loop-item-init
loop-item-init c = λ names asks. asked-none c.args.set.now names c.args.asked.now asks

pub loop-item-preserved : goal.loop-item-preserved
loop-item-preserved c = λ names asks.
    let items = c.args.items.now in
    let k = c.loop-item.item-index in
    let so_far = also names (any_names world_entry_names (map world_entry_view (take k items))) in
    asked-more c.args.set.now names world_entry_names world_entry_view items k c.item-item.result _ c.loop-item-test.true c.item-item.is (c.in_ok-ask_world_item.ensures so_far (c.loop-item.invariant names asks))

pub returns : goal.returns
returns c = λ names asks.
    all-taken (λ (is : List WorldItem). AreAsked c.args.set.now (also names (any_names world_entry_names (map world_entry_view is))) c.loop-item.asked) c.args.items.now c.loop-item.item-index c.loop-item-test.false (c.loop-item.invariant names asks)
