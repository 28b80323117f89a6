use Rattle.std.proofs.Common.{IsTrue, All, take}
use Rattle.wit_tokens.specs.FullNames.{has_label}
use Rattle.wit_tokens.specs.View.{item_view}
use Rattle.package_adding.proofs.full_names.have_labels.Given as goal

abbrev pub invariant-loop-item : goal.invariant-loop-item
invariant-loop-item l = All (λ item. IsTrue (has_label (item_view item))) (take l.item-index l.items)
