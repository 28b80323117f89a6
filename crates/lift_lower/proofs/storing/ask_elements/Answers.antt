use Rattle.std.proofs.Common.{◌≡◌, ◌*◌, ◌<◌, ◌≤◌, ◌^◌, min, ap, ◌∙◌, arith}
use Rattle.canonical_abi.specs.Layout.{size}
use Rattle.canonical_abi.proofs.Layouts.AlignmentsAndSizes.{is-alignment, one-size, le-times}
use Rattle.tables.specs.Closed.{closed_type}
use Rattle.canonical_abi.specs.Trace.{RequestEnds}
use Rattle.lift_lower.specs.Scripts.{HasEnded, AsksBlock}
use Rattle.lift_lower.proofs.ScriptPartsInOrder.{asked, saturated-ends}
use Rattle.values.proofs.WeakerAnswers.{if-err-as, if-ok-as}
use Rattle.lift_lower.proofs.storing.ask_elements.Goals as goal

pub ask_block-requires : goal.ask_block-requires
ask_block-requires g c = record { aligned = rw c.align_of-align.ensures.value (is-alignment (closed_type c.args.table.now c.args.element)) }

pub returns-clause-fault : goal.returns-clause-fault
returns-clause-fault g c =
    let t = closed_type c.args.table.now c.args.element in
    let al = c.align_of-align.result in
    let n = c.args.count * size t in
    let cut : c.saturating_mul.result ≡ min n 18446744073709551615 = c.saturating_mul.ensures ∙ ap (λ s. min (c.args.count * s) 18446744073709551615) c.size_of-step.ensures.value in
    let old = g.G.Guest.memory c.args.guest.now in
    let new = g.G.Guest.memory c.ask_block.new.guest in
    let A = g.G.Guest.allocates in
    rw (← c.align_of-align.ensures.value)
    (if-err-as c.ask_block.result (λ k. RequestEnds c.args.limit A old al c.saturating_mul.result k new) (λ k. HasEnded c.args.limit A (AsksBlock al n) old k new)
    (λ k h. asked c.args.limit A al n old k new (saturated-ends c.args.limit A old al c.saturating_mul.result n k new (omega (arith, cut)) (λ few. omega (arith, cut, few, c.ranges.limit.fits)) h)) c.ask_block.ensures.fault)

pub returns-clause-few : goal.returns-clause-few
returns-clause-few g c =
    let t = closed_type c.args.table.now c.args.element in
    let cut : c.saturating_mul.result ≡ min (c.args.count * size t) 18446744073709551615 = c.saturating_mul.ensures ∙ ap (λ s. min (c.args.count * s) 18446744073709551615) c.size_of-step.ensures.value in
    let one = le-times c.args.count (size t) (one-size t c.requires.standard) in
    if-ok-as c.ask_block.result (λ at. c.saturating_mul.result ≤ c.args.limit) (λ at. c.args.count < 2 ^ 32) (λ at h. omega (arith, cut, one, h, c.ranges.limit.fits)) c.ask_block.ensures.within
