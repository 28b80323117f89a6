use Rattle.ranges.proofs.BoolsAndNumbersCross.{numbers-cross}
use Rattle.ranges.proofs.numbers.cross_numbers.Goals as goal

pub returns-clause-crosses : goal.returns-clause-crosses
returns-clause-crosses g c = λ p number width.
    let r = c.requires in
    numbers-cross _ p number _ width _ _ _ _ _ _ (λ i. (c.type_inv.source i).fits) r.inside r.room c.write.ensures
