use Rattle.std.proofs.Common.{◌≡◌, ℕ, [], ◌+◌, ◌-◌, ◌*◌, ◌/◌, ◌<◌, ◌≤◌, min, get_or, refl, ap, ◌∙◌, sym, subst, arith}
use Rattle.std.proofs.lemmas.Nat.{mod-mul-add}
use Rattle.canonical_abi.specs.Layout.{size}
use Rattle.ranges.specs.Bytewise.{IsTested}
use Rattle.ranges.specs.Columns.{HaveCases, overlaid, columns_seen}
use Rattle.ranges.proofs.CrossedElementsAppend.{crosses-both, nodes-both}
use Rattle.ranges.proofs.FrontsThatCrossed.{parts-fit}
use Rattle.ranges.proofs.VariantElementsByCase.{element-fits}
use Rattle.ranges.proofs.ColumnsLaidOverCaps.{laid-again, planned-caps, planned-visited}
use Rattle.ranges.proofs.columns.cross_columns.Goals as goal

pub loop-done-init : goal.loop-done-init
loop-done-init g c = (
  omega arith,
  λ t has. record { values = []; held = refl; events = []; stored = refl; leads = refl; visited = refl },
  λ t has. (let same : c.args.nodes.now ≡ c.args.nodes.now + 0 = omega arith in ap (λ n. min n 18446744073709551615) same),
  refl,
  λ m a e j h k b.
      let plan = c.args.plan.now in
      let few : c.min.result ≡ min (2048 / plan.plain.size) c.args.elements.count = c.min.ensures in
      let low : e < c.min.result = omega (arith, few, h, k) in
      ap (overlaid plan.columns.items m a j) (c.repeat.ensures (e * plan.plain.size + j) (omega (arith, element-fits e c.min.result plan.plain.size low, b)) ∙ ap (λ x. get_or plan.plain.bytes x 0) (mod-mul-add e plan.plain.size j b)),
)

pub fill_columns-requires-clause-inside : goal.fill_columns-requires-clause-inside
fill_columns-requires-clause-inside g c =
    let m : c.min-part.result ≡ min (2048 / c.args.plan.now.plain.size) (c.args.elements.count - c.loop-done.done) = c.min-part.ensures in
    let part : c.min-part.result ≤ c.args.elements.count - c.loop-done.done = omega (arith, m) in
    omega (arith, parts-fit c.loop-done.done c.min-part.result c.args.elements.count c.args.plan.now.plain.size part c.loop-done.invariant.0, c.requires.inside)

pub blend_chunk-requires-clause-inside : goal.blend_chunk-requires-clause-inside
blend_chunk-requires-clause-inside g c =
    let m : c.min-part.result ≡ min (2048 / c.args.plan.now.plain.size) (c.args.elements.count - c.loop-done.done) = c.min-part.ensures in
    let part : c.min-part.result ≤ c.args.elements.count - c.loop-done.done = omega (arith, m) in
    omega (arith, parts-fit c.loop-done.done c.min-part.result c.args.elements.count c.args.plan.now.plain.size part c.loop-done.invariant.0, c.requires.inside)

pub blend_chunk-requires-clause-room : goal.blend_chunk-requires-clause-room
blend_chunk-requires-clause-room g c =
    let m : c.min-part.result ≡ min (2048 / c.args.plan.now.plain.size) (c.args.elements.count - c.loop-done.done) = c.min-part.ensures in
    let part : c.min-part.result ≤ c.args.elements.count - c.loop-done.done = omega (arith, m) in
    omega (arith, parts-fit c.loop-done.done c.min-part.result c.args.elements.count c.args.plan.now.plain.size part c.loop-done.invariant.0, c.requires.room, c.loop-done.invariant.3)

pub blend_chunk-requires-clause-small : goal.blend_chunk-requires-clause-small
blend_chunk-requires-clause-small g c =
    let m : c.min-part.result ≡ min (2048 / c.args.plan.now.plain.size) (c.args.elements.count - c.loop-done.done) = c.min-part.ensures in
    let part : c.min-part.result ≤ c.args.elements.count - c.loop-done.done = omega (arith, m) in
    omega (arith, parts-fit c.loop-done.done c.min-part.result c.args.elements.count c.args.plan.now.plain.size part c.loop-done.invariant.0, c.requires.small)

pub loop-done-preserved : goal.loop-done-preserved
loop-done-preserved g c =
    let inv = c.loop-done.invariant in
    let r = c.requires in
    let plan = c.args.plan.now in
    let columns = plan.columns.items in
    let step = plan.plain.size in
    let done = c.loop-done.done in
    let m = c.args.source.now in
    let start = c.args.elements.from + done * step in
    let p = c.min-part.result in
    let is : p ≡ min (2048 / step) (c.args.elements.count - done) = c.min-part.ensures in
    let part : p ≤ c.args.elements.count - done = omega (arith, is) in
    let listed = c.as_slice-columns.ensures.value in
    let told = c.in-Some.ensures in
    let laid_over : (e j : ℕ) → e < p → j < step → get_or c.fill_columns.new.caps (e * step + j) 0 ≡ overlaid columns m (start + e * step) j (get_or c.loop-done.caps (e * step + j) 0) = rw listed at told.caps in
    let counted : c.in-Some.seen ≡ columns_seen columns step m start p = rw listed at told.nodes in
    let good : (e : ℕ) → e < p → HaveCases columns m (start + e * step) = rw listed at told.good in (
      omega (arith, part, inv.0),
      λ t has.
          let place : done * step ≡ done * size t = ap (λ s. done * s) has.step_is in
          let whole : p * size t ≡ p * step = ap (λ s. p * s) (sym has.step_is) in
          let here = c.blend_chunk.ensures.crosses t p has.bytewise whole
          (planned-caps t plan has m start p c.fill_columns.new.caps r.some good (λ e j h k. laid_over e j h k ∙ inv.4 m (start + e * step) e j (omega (arith, is, h)) (omega (arith, is, h)) k))
          (λ e h. subst (λ s. IsTested t m (start + e * s)) has.step_is (has.tested m (start + e * step) (good e h))) in
          crosses-both t _ _ _ _ _ _ _ _ _ (inv.1 t has) (rw place at here),
      λ t has.
          let place : c.args.elements.from + done * size t ≡ start = ap (λ s. c.args.elements.from + done * s) (sym has.step_is) in
          let both = nodes-both t m c.args.elements.from done p in
          let seen = planned-visited t plan has m start p good in
          let own : p * c.from.result ≡ p * plan.plain.nodes = ap (λ n. p * n) c.from.ensures in
          omega (arith, own, inv.2 t has, rw place at both, seen, counted, c.saturating_add.ensures),
      c.blend_chunk.ensures.same_length ∙ inv.3,
      λ m' a e j h k b.
          let low : e < p = omega (arith, is, h, k) in
          ap (overlaid columns m' a j) (laid_over e j low b) ∙ laid-again columns m' a m (start + e * step) j _ ∙ inv.4 m' a e j h (omega (arith, is, h, k)) b,
    )
