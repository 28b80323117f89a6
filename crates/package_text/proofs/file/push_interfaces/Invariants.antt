use Rattle.std.proofs.Common.{◌≡◌, ◌++◌, map, take}
use Rattle.std.specs.List.{filter}
use Rattle.wit_tokens.specs.View.{item_view}
use Rattle.package_form.specs.Reached.{is_interface_of}
use Rattle.package_text.specs.Tree.{interface_entry}
use Rattle.package_text.proofs.file.push_interfaces.Given as goal

abbrev pub invariant-loop-interface : goal.invariant-loop-interface
invariant-loop-interface l = map item_view l.items.items ≡ map item_view l.initial.items.items ++ map (interface_entry l.resolve) (filter (is_interface_of l.own) (take l.interface-index l.resolve.interfaces))
