use Rattle.std.proofs.Common.{◌≡◌, inl, inr, [], ◌∷◌, ◌+◌, ◌-◌, ◌*◌, ◌/◌, ◌<◌, ◌≤◌, min, length, take, ap, ◌∙◌, arith}
use Rattle.std.proofs.lemmas.Bool.{cases_lt}
use Rattle.std.proofs.lemmas.List.{length-take}
use Rattle.canonical_abi.specs.Layout.{size}
use Rattle.canonical_abi.proofs.Traces.BytesWrittenOver.{length-overwrite}
use Rattle.values.specs.Bytes.{AreBytes}
use Rattle.ranges.proofs.CrossedElementsAppend.{crosses-both}
use Rattle.ranges.proofs.FrontsThatCrossed.{parts-fit}
use Rattle.ranges.proofs.VariantsMerged.{chunk-fits, seen-more, words-cross}
use Rattle.ranges.proofs.words.cross_words.Goals as goal

pub merge_chunk-requires-clause-room : goal.merge_chunk-requires-clause-room
merge_chunk-requires-clause-room g c =
    let step = c.args.column.now.rows.size in
    let is : c.min-part.result ≡ min (2048 / step) (c.args.elements.count - c.loop-done.done) = c.min-part.ensures in
    let part : c.min-part.result ≤ c.args.elements.count - c.loop-done.done = omega (arith, is) in
    let fits = parts-fit c.loop-done.done c.min-part.result c.args.elements.count step part c.loop-done.invariant.0 in
    omega (arith, fits, c.requires.room, c.loop-done.invariant.5, ap length c.bytes.ensures)

pub merge_chunk-requires-clause-inside : goal.merge_chunk-requires-clause-inside
merge_chunk-requires-clause-inside g c =
    let step = c.args.column.now.rows.size in
    let is : c.min-part.result ≡ min (2048 / step) (c.args.elements.count - c.loop-done.done) = c.min-part.ensures in
    let part : c.min-part.result ≤ c.args.elements.count - c.loop-done.done = omega (arith, is) in
    let fits = parts-fit c.loop-done.done c.min-part.result c.args.elements.count step part c.loop-done.invariant.0 in
    omega (arith, fits, c.requires.inside)

pub write-requires : goal.write-requires
write-requires g c =
    let step = c.args.column.now.rows.size in
    let is : c.min-part.result ≡ min (2048 / step) (c.args.elements.count - c.loop-done.done) = c.min-part.ensures in
    let part : c.min-part.result ≤ c.args.elements.count - c.loop-done.done = omega (arith, is) in
    let fits = parts-fit c.loop-done.done c.min-part.result c.args.elements.count step part c.loop-done.invariant.0 in
    omega (arith, fits, c.requires.room, c.loop-done.invariant.5, length-take (c.min-part.result * step) c.merge_chunk.new.buffer)

pub loop-done-preserved : goal.loop-done-preserved
loop-done-preserved g c =
    let inv = c.loop-done.invariant in
    let r = c.requires in
    let column = c.args.column.now in
    let step = column.rows.size in
    let some : 0 < step = omega (arith, r.long) in
    let m = c.args.source.now in
    let done = c.loop-done.done in
    let start = c.args.elements.from + done * step in
    let p = c.min-part.result in
    let is : p ≡ min (2048 / step) (c.args.elements.count - done) = c.min-part.ensures in
    let part : p ≤ c.args.elements.count - done = omega (arith, is) in
    let few : p * step ≤ 2048 = chunk-fits p step (omega (arith, is)) in
    let fits = parts-fit done p c.args.elements.count step part inv.0 in
    let now = g.G.Guest.memory c.loop-done.guest in
    let to = c.args.elements.to + done * step in
    let buffer = c.merge_chunk.new.buffer in
    let told = c.in-Some.ensures in
    let seen = seen-more (column ∷ []) step m c.args.elements.from done p in (
      omega (arith, part, inv.0),
      λ e h. elim (cases_lt e done) [
        | inl b ↦ inv.1 e b
        | inr b ↦
            let back : done + (e - done) ≡ e = omega (arith, b) in
            let place : start + (e - done) * step ≡ c.args.elements.from + (done + (e - done)) * step = omega arith in
            let here = told.good (e - done) (omega (arith, b, h)) in
            rw (place, back) at here
      ],
      λ t bytewise alike tested caps.
          let place : done * size t ≡ done * step = ap (λ s. done * s) alike in
          let bytes : AreBytes m = λ i. (c.type_inv.source i).fits in
          let over = told.merged in
          let merged = rw c.bytes.ensures at over in
          let here = words-cross g.G.Guest.allocates t column m start p now to (g.G.Guest.memory c.write.new.self) buffer bytes bytewise alike some few c.merge_chunk.array_long
          (omega (arith, fits, r.inside)) (omega (arith, fits, r.room, inv.5)) tested caps told.good merged c.write.ensures in
          crosses-both t _ _ _ _ _ _ _ _ _ (inv.2 t bytewise alike tested caps) (rw (← place) at here),
      omega (arith, inv.3, seen, told.nodes),
      omega (arith, inv.4, told.small),
      ap (λ w. length w.bytes) c.write.ensures ∙ length-overwrite now.bytes to (take (p * step) buffer) (omega (arith, length-take (p * step) buffer, fits, r.room, inv.5)) ∙ inv.5,
    )
