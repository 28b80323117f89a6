use Rattle.ranges.proofs.BoolsAndNumbersCross.{bools-cross}
use Rattle.ranges.proofs.bools.cross_plain.Goals as goal

pub returns-clause-crosses : goal.returns-clause-crosses
returns-clause-crosses g c =
    let r = c.requires in
    bools-cross _ _ _ _ _ _ _ (λ i. (c.type_inv.source i).fits) r.inside r.room r.plain c.write.ensures
