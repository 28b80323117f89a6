use Rattle.std.proofs.Common.{◌≡◌, drop}
use Rattle.placement.specs.Straight.{looks_back}
use Rattle.placement.proofs.order.looks_back.Given as goal

abbrev pub invariant-loop-place : goal.invariant-loop-place
invariant-loop-place l = looks_back l.place (drop l.place l.uses) ≡ looks_back 0 l.uses
