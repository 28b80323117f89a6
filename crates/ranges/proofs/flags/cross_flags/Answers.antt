use Rattle.std.proofs.Common.{◌≡◌, inr, ◌-◌, ◌*◌, ◌≤◌, min, sym, refl, ap, ◌∙◌, arith}
use Rattle.std.proofs.lemmas.List.{get_or-replicate}
use Rattle.canonical_abi.specs.Types.{flags_type}
use Rattle.canonical_abi.specs.Layout.{flags_size}
use Rattle.ranges.proofs.CapsAndBlends.{caps-below}
use Rattle.ranges.proofs.CrossedElementsAppend.{crosses-both}
use Rattle.ranges.proofs.flags.cross_flags.Goals as goal

pub loop-done-preserved : goal.loop-done-preserved
loop-done-preserved g c =
    let inv = c.loop-done.invariant in
    let n = c.args.labels in
    let step = c.flags_bytes-step.result in
    let is : step ≡ flags_size n = c.flags_bytes-step.ensures.value in
    let m : c.min-part.result ≡ min 4096 (c.args.elements.count - c.loop-done.done) = c.min-part.ensures in
    let part : c.min-part.result ≤ c.args.elements.count - c.loop-done.done = omega (arith, m) in
    let place : c.loop-done.done * step ≡ c.loop-done.done * flags_size n = ap (λ s. c.loop-done.done * s) is in
    let few : step ≤ 4 = omega (arith, c.flags_bytes-step.ensures.known) in
    let here = c.cross_range.ensures.crosses (flags_type n) tt
    (record { step_is = is; caps_are = λ m a i h. get_or-replicate 256 i 255 0 (omega (arith, h, few)) ∙ sym (caps-below (flags_size n) 255 i (omega (arith, h, is))) })
    (λ i h. inr (c.if-not-are_flags.ensures refl i h)) in
    (omega (arith, part, inv.0), crosses-both _ _ _ _ _ _ _ _ _ _ inv.1 (rw place at here), c.cross_range.ensures.same_length ∙ inv.2)
