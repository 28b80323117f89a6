use Rattle.std.proofs.Common.{◌≡◌, ◌-◌, ◌*◌, ◌≤◌, min, ◌∙◌, arith}
use Rattle.ranges.proofs.CrossedElementsAppend.{crosses-both}
use Rattle.ranges.proofs.bools.cross_bools.Goals as goal

pub loop-done-preserved : goal.loop-done-preserved
loop-done-preserved g c =
    let inv = c.loop-done.invariant in
    let done = c.loop-done.done in
    let m : c.min-part.result ≡ min c.part_of-most.result (c.args.elements.count - done) = c.min-part.ensures in
    let part : c.min-part.result ≤ c.args.elements.count - done = omega (arith, m) in
    let one : done ≡ done * 1 = omega arith in
    let here = c.cross_part.ensures.crosses in
    (omega (arith, part, inv.0), crosses-both _ _ _ _ _ _ _ _ _ _ inv.1 (rw one at here), c.cross_part.ensures.same_length ∙ inv.2)
