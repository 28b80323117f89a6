use Rattle.std.proofs.Common.{◌≡◌, ◌+◌, ◌-◌, ◌*◌, ◌/◌, ◌≤◌, min, ap, ◌∙◌, sym, arith}
use Rattle.std.proofs.Math.Nat.{mul-le-mul_right}
use Rattle.canonical_abi.specs.Layout.{size}
use Rattle.ranges.proofs.FrontsThatCrossed.{chunk-caps, parts-fit}
use Rattle.ranges.proofs.CrossedElementsAppend.{crosses-both}
use Rattle.ranges.proofs.blend.cross_bytewise.Goals as goal

pub blend_chunk-requires-clause-inside : goal.blend_chunk-requires-clause-inside
blend_chunk-requires-clause-inside g c =
    let m : c.min-part.result ≡ min (2048 / c.args.element.now.size) (c.args.elements.count - c.loop-done.done) = c.min-part.ensures in
    let part : c.min-part.result ≤ c.args.elements.count - c.loop-done.done = omega (arith, m) in
    omega (arith, parts-fit c.loop-done.done c.min-part.result c.args.elements.count c.args.element.now.size part c.loop-done.invariant.0, c.requires.inside)

pub blend_chunk-requires-clause-room : goal.blend_chunk-requires-clause-room
blend_chunk-requires-clause-room g c =
    let m : c.min-part.result ≡ min (2048 / c.args.element.now.size) (c.args.elements.count - c.loop-done.done) = c.min-part.ensures in
    let part : c.min-part.result ≤ c.args.elements.count - c.loop-done.done = omega (arith, m) in
    let same = c.loop-done.invariant.2 in
    omega (arith, parts-fit c.loop-done.done c.min-part.result c.args.elements.count c.args.element.now.size part c.loop-done.invariant.0, c.requires.room, same)

pub blend_chunk-requires-clause-small : goal.blend_chunk-requires-clause-small
blend_chunk-requires-clause-small g c =
    let m : c.min-part.result ≡ min (2048 / c.args.element.now.size) (c.args.elements.count - c.loop-done.done) = c.min-part.ensures in
    let part : c.min-part.result ≤ c.args.elements.count - c.loop-done.done = omega (arith, m) in
    omega (arith, parts-fit c.loop-done.done c.min-part.result c.args.elements.count c.args.element.now.size part c.loop-done.invariant.0, c.requires.small)

pub loop-done-preserved : goal.loop-done-preserved
loop-done-preserved g c =
    let inv = c.loop-done.invariant in
    let step = c.args.element.now.size in
    let done = c.loop-done.done in
    let m : c.min-part.result ≡ min (2048 / c.args.element.now.size) (c.args.elements.count - c.loop-done.done) = c.min-part.ensures in
    let part : c.min-part.result ≤ c.args.elements.count - c.loop-done.done = omega (arith, m) in
    let few : c.min-part.result ≤ 2048 / c.args.element.now.size = omega (arith, m) in
    let all : c.min.result ≡ min (2048 / c.args.element.now.size) c.args.elements.count = c.min.ensures in
    let within : c.min-part.result * step ≤ c.min.result * step = mul-le-mul_right step (omega (arith, m, all)) in (
      omega (arith, part, inv.0),
      λ t bytewise has tested.
          let place : done * step ≡ done * size t = ap (λ s. done * s) has.step_is in
          let whole : c.min-part.result * size t ≡ c.min-part.result * step = ap (λ s. c.min-part.result * s) (sym has.step_is) in
          let here = c.blend_chunk.ensures.crosses t c.min-part.result bytewise whole
          (λ i h. chunk-caps t c.args.source.now step c.args.element.now.bytes c.repeat.new.caps (c.min.result * step) c.min-part.result _ i c.requires.some has c.repeat.ensures h within)
          (λ i h. let e : c.args.elements.from + (done + i) * size t ≡ c.args.elements.from + done * step + i * size t = omega (arith, place) in rw e at (tested (done + i) (omega (arith, part, inv.0, h)))) in
          crosses-both t _ _ _ _ _ _ _ _ _ (inv.1 t bytewise has tested) (rw place at here),
      c.blend_chunk.ensures.same_length ∙ inv.2,
    )
