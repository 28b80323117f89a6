use Rattle.std.proofs.Common.{◌≡◌, ◌≤◌, ◌+◌, IsTrue, map, drop, length}
use Rattle.ctype_format.specs.View.{decl_view}
use Rattle.package_form.specs.Ends.{is_parted}
use Rattle.wit_component.specs.Component.{interfaces_declared, interfaces_front, no_front}
use Rattle.wit_component.specs.ToComponent.{are_labelled}
use Rattle.wit_component.proofs.PartsInTurn.{IsLeft}
use Rattle.wit_component.proofs.comparison.behind_interfaces.Given as goal

abbrev pub invariant-loop-interface : goal.invariant-loop-interface
invariant-loop-interface l = record {
  left : IsLeft (map decl_view l.fn.decls) (interfaces_declared l.fn.resolve no_front 0 l.fn.resolve.interfaces) (map decl_view l.left) (interfaces_declared l.fn.resolve l.place l.start (drop l.interface-index l.fn.resolve.interfaces));
  front : interfaces_front l.fn.resolve.definitions l.place l.start (drop l.interface-index l.fn.resolve.interfaces) ≡ interfaces_front l.fn.resolve.definitions no_front 0 l.fn.resolve.interfaces;
  parted : IsTrue (is_parted (length l.fn.resolve.definitions) l.start (drop l.interface-index l.fn.resolve.interfaces) l.fn.resolve.worlds);
  types : l.place.types ≤ l.start + l.interface-index;
  labelled : are_labelled l.fn.resolve.definitions l.start (drop l.interface-index l.fn.resolve.interfaces) ≡ are_labelled l.fn.resolve.definitions 0 l.fn.resolve.interfaces;
}
