use Rattle.std.proofs.Common.{All, take}
use Rattle.package_form.specs.Laws.{IsLabelled}
use Rattle.package_adding.proofs.tree.are_labelled.Given as goal

abbrev pub invariant-loop-interface : goal.invariant-loop-interface
invariant-loop-interface l = All IsLabelled (take l.interface-index l.interfaces)
