use Rattle.std.proofs.Common.{◌≡◌, ◌++◌, flat_map, drop}
use Rattle.package_form.specs.Form.{functions_in_item, functions_of}
use Rattle.package_form.proofs.form.functions_of.Given as goal

abbrev pub invariant-loop-item : goal.invariant-loop-item
invariant-loop-item l = l.ids.items ++ flat_map functions_in_item (drop l.item-index l.world.items) ≡ functions_of l.world
