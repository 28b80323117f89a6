use Rattle.ranges.proofs.FrontsThatCrossed.{chunk-crosses}
use Rattle.ranges.proofs.blend.blend_chunk.Goals as goal

pub returns-clause-crosses : goal.returns-clause-crosses
returns-clause-crosses g c = λ t n bytewise whole told tested.
    let r = c.requires in
    chunk-crosses _ t n _ _ _ _ _ _ _ _ _ (λ i. (c.type_inv.source i).fits) bytewise whole r.few c.blend.array_long r.inside r.room told tested c.bytes.ensures c.blend.ensures c.write.ensures
