use Rattle.std.proofs.Common.{◌≡◌, ◌≤◌, ◌+◌, map, drop, length}
use Rattle.ctype_format.specs.View.{decl_view}
use Rattle.package_form.specs.Ends.{interfaces_end}
use Rattle.wit_component.specs.Component.{worlds_declared, package_declarations}
use Rattle.wit_component.specs.ToComponent.{are_worlds_labelled}
use Rattle.wit_component.proofs.PartsInTurn.{IsLeft}
use Rattle.wit_component.proofs.WorldItemsStandInOrder.{AreWorlds}
use Rattle.wit_component.proofs.comparison.are_declarations_of.Given as goal

abbrev pub invariant-loop-world : goal.invariant-loop-world
invariant-loop-world l = record {
  left : IsLeft (map decl_view l.fn.decls) (package_declarations l.fn.resolve) (map decl_view l.left) (worlds_declared l.fn.resolve l.place l.start (drop l.world-index l.fn.resolve.worlds));
  are : AreWorlds l.fn.resolve.definitions (length l.fn.resolve.interfaces) l.world-index l.start (drop l.world-index l.fn.resolve.worlds);
  instances : length l.place.instances ≡ length l.fn.resolve.interfaces;
  start : l.start ≤ length l.fn.resolve.definitions;
  types : l.place.types ≤ 131070 + l.world-index;
  labelled : are_worlds_labelled l.fn.resolve.definitions l.start (drop l.world-index l.fn.resolve.worlds) ≡ are_worlds_labelled l.fn.resolve.definitions (interfaces_end 0 l.fn.resolve.interfaces) l.fn.resolve.worlds;
}
