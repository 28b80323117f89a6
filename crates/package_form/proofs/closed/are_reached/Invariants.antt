use Rattle.std.proofs.Common.{◌≡◌, ℕ, List, drop, length}
use Rattle.package_form.specs.Reached.{are_reached}
use Rattle.package_form.specs.Marks.{AreMarked}
use Rattle.package_form.proofs.closed.are_reached.Given as goal

abbrev pub invariant-loop-place : goal.invariant-loop-place
invariant-loop-place l =
    (places : List ℕ) → AreMarked (length l.interfaces) places l.marks → are_reached l.own places l.place (drop l.place l.interfaces) ≡ are_reached l.own places 0 l.interfaces
