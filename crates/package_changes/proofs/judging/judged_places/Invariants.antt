use Rattle.std.proofs.Common.{◌≡◌, All, map, take}
use Rattle.package_changes.specs.Comparing.{AreRight}
use Rattle.package_changes.specs.Pairs.{IsJudged}
use Rattle.package_changes.proofs.judging.judged_places.Given as goal

abbrev pub invariant-loop-place : goal.invariant-loop-place
invariant-loop-place l = record {
  right : AreRight l.comparer.old.table.now l.comparer.new.table.now l.known;
  places : map (λ j. j.place) l.judged.items ≡ take l.place-index l.places;
  judged : All (IsJudged l.comparer.old.table.now l.comparer.new.table.now) l.judged.items;
}
