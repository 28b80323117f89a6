use Rattle.std.proofs.Common.{IsTrue, All, subst}
use Rattle.std.proofs.lemmas.List.{take_all}
use Rattle.std.proofs.lemmas.List.Elements.{All-more}
use Rattle.wit_tokens.specs.FullNames.{has_label}
use Rattle.wit_tokens.specs.View.{item_view}
use Rattle.wit_tokens.specs.declared.wit_syntax.ast.Item.{Item}
use Rattle.package_adding.proofs.full_names.have_labels.Goals as goal

abbrev IsNamed : Item → Type 0
IsNamed item = IsTrue (has_label (item_view item))

pub loop-item-preserved : goal.loop-item-preserved
loop-item-preserved c =
    All-more IsNamed c.args.items.now c.loop-item.item-index c.item-item.result c.loop-item-test.true c.loop-item.invariant (subst IsNamed c.item-item.is c.has_label.ensures)

pub returns : goal.returns
returns c = subst (All IsNamed) (take_all c.loop-item.item-index c.args.items.now c.loop-item-test.false) c.loop-item.invariant
