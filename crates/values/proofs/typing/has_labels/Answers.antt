use Rattle.std.proofs.Common.{◌^◌, ◌<◌, ◌≤◌, pow_mono, refl, arith}
use Rattle.values.proofs.typing.has_labels.Goals as goal

pub returns-then-labels-ge32 : goal.returns-then-labels-ge32
returns-then-labels-ge32 c =
    let h : 2 ^ 32 ≤ 2 ^ c.args.labels = pow_mono c.if-labels-ge32.true in
    let below : c.args.bits < 2 ^ c.args.labels = omega arith in
    (λ t. below, λ b. refl)
