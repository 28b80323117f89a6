use Rattle.std.proofs.Common.{◌≡◌, take, length}
use Rattle.std.specs.Prelude.{map}
use Rattle.wit_format.specs.Solids.{solid_of}
use Rattle.wit_format.proofs.solid.are_same.Given as goal

abbrev pub invariant-loop-at : goal.invariant-loop-at
invariant-loop-at l = record {
  same : map (solid_of l.text) (take l.at l.solids) ≡ map (solid_of l.out) (take l.at l.others);
  as_long : length l.solids ≡ length l.others;
}
