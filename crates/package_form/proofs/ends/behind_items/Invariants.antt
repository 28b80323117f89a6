use Rattle.std.proofs.Common.{◌≡◌, drop}
use Rattle.package_form.specs.Ends.{behind_items}
use Rattle.package_form.proofs.ends.behind_items.Given as goal

abbrev pub invariant-loop-item : goal.invariant-loop-item
invariant-loop-item l = behind_items l.end (drop l.item-index l.items) ≡ behind_items l.initial.end l.items
