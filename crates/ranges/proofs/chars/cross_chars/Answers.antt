use Rattle.std.proofs.Common.{◌≡◌, ◌-◌, ◌≤◌, min, sym, refl, ◌∙◌, arith}
use Rattle.std.proofs.lemmas.List.{get_or-replicate}
use Rattle.canonical_abi.specs.Types.{prim_type, scalar_value}
use Rattle.ranges.proofs.CapsAndBlends.{caps-below}
use Rattle.ranges.proofs.CrossedElementsAppend.{crosses-both}
use Rattle.ranges.proofs.chars.cross_chars.Goals as goal

pub loop-done-preserved : goal.loop-done-preserved
loop-done-preserved g c =
    let inv = c.loop-done.invariant in
    let m : c.min-part.result ≡ min 1024 (c.args.elements.count - c.loop-done.done) = c.min-part.ensures in
    let part : c.min-part.result ≤ c.args.elements.count - c.loop-done.done = omega (arith, m) in
    let here = c.cross_range.ensures.crosses (prim_type scalar_value) tt (record { step_is = refl; caps_are = λ m a i h. get_or-replicate 256 i 255 0 (omega (arith, h)) ∙ sym (caps-below 4 255 i h) }) (c.if-not-are_chars.ensures refl) in
    (omega (arith, part, inv.0), crosses-both _ _ _ _ _ _ _ _ _ _ inv.1 here, c.cross_range.ensures.same_length ∙ inv.2)
