use Rattle.std.proofs.Common.{arith}
use Rattle.package_changes.specs.Pairs.{IsJudged}
use Rattle.package_changes.specs.declared.judging.Judged.{Judged}
use Rattle.package_changes.proofs.OneMore.{mapped-more, all-more}
use Rattle.package_changes.proofs.judging.judged_places.Goals as goal

pub loop-place-preserved : goal.loop-place-preserved
loop-place-preserved c =
    let js = c.loop-place.judged.items in
    let ks = c.push.new.self.items in
    let j = c.in_ok-judged_place.field-0 in
    record {
      right = c.in_ok-judged_place.ensures.right;
      places = mapped-more js ks j c.in_ok-push.ensures.items (λ (k : Judged). k.place) c.args.places.now c.loop-place.place-index _ (omega arith) c.loop-place.invariant.places c.in_ok-judged_place.ensures.place;
      judged = all-more js ks j c.in_ok-push.ensures.items (IsJudged c.args.comparer.now.old.table.now c.args.comparer.now.new.table.now) c.loop-place.invariant.judged c.in_ok-judged_place.ensures.judged;
    }
