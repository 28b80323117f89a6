use Rattle.std.proofs.Common.{◌≡◌, ◌*◌, ap, arith}
use Rattle.canonical_abi.specs.Layout.{size}
use Rattle.values.specs.Bytes.{AreBytes}
use Rattle.ranges.proofs.FrontsThatCrossed.{range-front, as-they-are, front-crosses, same-caps}
use Rattle.ranges.proofs.blend.cross_range.Goals as goal

pub returns-clause-crosses : goal.returns-clause-crosses
returns-clause-crosses g c = λ t bytewise has tested.
    let r = c.requires in
    let bytes : AreBytes c.args.source.now = λ i. (c.type_inv.source i).fits in
    let size : c.args.elements.count * c.args.element.now.size ≡ c.args.elements.count * size t = ap (λ s. c.args.elements.count * s) has.step_is in
    let same = same-caps t c.args.source.now c.args.element.now.size c.args.element.now.bytes r.some has c.args.elements.count c.args.elements.from in
    front-crosses _ t _ _ _ _ _ _ _ _ bytes bytewise same tested (omega (arith, r.inside, size)) (omega (arith, r.room, size))
    (range-front _ _ _ _ _ _ _ _ (λ j h. as-they-are _ _ _ _ _ _ j r.some bytes r.whole) r.inside r.room c.write.ensures)
