use Rattle.crossing.proofs.walk.are_bytes.Goals as goal

pub returns : goal.returns
returns c = λ i. (c.type_inv.source i).fits
