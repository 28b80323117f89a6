use Rattle.std.proofs.Common.{◌^◌, pow_mono, ◌<◌, ◌≤◌, sym, arith}
use Rattle.std.proofs.Math.Nat.{mod-eq_of_lt}
use Rattle.values.proofs.bytes.low_flags.Goals as goal

pub returns-else-labels-lt32 : goal.returns-else-labels-lt32
returns-else-labels-lt32 c =
    let h : 2 ^ 32 ≤ 2 ^ c.args.labels = pow_mono c.if-labels-lt32.false in
    let l : c.args.bits < 2 ^ c.args.labels = omega arith in
    sym (mod-eq_of_lt l)
