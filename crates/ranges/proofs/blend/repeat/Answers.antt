use Rattle.std.proofs.Common.{◌≡◌, ◌+◌, ◌-◌, ◌%◌, get_or, sym, ap, ◌∙◌, arith}
use Rattle.std.proofs.lemmas.Grind.{common_steps}
use Rattle.std.proofs.Math.Nat.{mod-eq_of_lt, add-mod_left}
use Rattle.ranges.proofs.blend.repeat.Goals as goal

pub loop-i-2-init : goal.loop-i-2-init
loop-i-2-init c = λ j h. c.loop-i.invariant j (omega arith) ∙ ap (λ k. get_or c.args.pattern.now k 0) (sym (mod-eq_of_lt h))

pub loop-i-2-preserved : goal.loop-i-2-preserved
loop-i-2-preserved c = λ j h.
    let i = c.loop-i-2.i in
    let back : c.args.size + (i - c.args.size) ≡ i = omega (arith, c.loop-i-2.auto.i) in
    let round : (i - c.args.size) % c.args.size ≡ i % c.args.size = sym (add-mod_left c.args.size (i - c.args.size)) ∙ ap (λ k. k % c.args.size) back in
    let there : get_or c.loop-i-2.caps (i - c.args.size) 0 ≡ get_or c.args.pattern.now (i % c.args.size) 0 = c.loop-i-2.invariant (i - c.args.size) (omega (arith, c.requires.some, c.loop-i-2.auto.i)) ∙ ap (λ k. get_or c.args.pattern.now k 0) round in
    grind (arith, common_steps, there, c.loop-i-2.invariant j)
