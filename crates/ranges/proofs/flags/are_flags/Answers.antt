use Rattle.std.proofs.Common.{◌≡◌, ◌*◌, ◌^◌, ◌<◌, arith}
use Rattle.std.proofs.Math.Nat.{mod-lt}
use Rattle.std.proofs.Math.Pow.{pow_pos}
use Rattle.canonical_abi.specs.Layout.{flags_size}
use Rattle.ranges.proofs.VariantElementsByCase.{element-fits}
use Rattle.ranges.proofs.FrontsThatCrossed.{part-sized}
use Rattle.ranges.proofs.flags.are_flags.Goals as goal

pub returns : goal.returns
returns c = λ good i h.
    let n = c.args.labels in
    let k = c.flags_bytes-width.result in
    let is : k ≡ flags_size n = c.flags_bytes-width.ensures.value in
    let same = part-sized k c.flags_bytes-width.ensures.known c.args.memory.now c.args.from (c.args.count * k) (i * k) (element-fits i c.args.count k h) (rw is c.requires.inside) in
    let few : c.low_flags-most.result < 2 ^ n = rw c.low_flags-most.ensures (mod-lt 4294967295 (pow_pos n)) in
    let low = c.are_all_at_most.ensures good i h in
    rw (← is) (omega (arith, same, few, low))
