use Rattle.std.proofs.Common.{sym, ◌∙◌}
use Rattle.package_diff.proofs.SignaturesCompared.{signature-told}
use Rattle.package_diff.proofs.calling.are_same.Goals as goal

pub returns-then-eq : goal.returns-then-eq
returns-then-eq c =
    let params = rw (c.as_slice.ensures.value, c.as_slice-then-eq.ensures.value) at c.eq-then-eq.ensures in
    signature-told c.args.one.now c.args.other.now c.eq-then-eq.result (sym c.eq.ensures ∙ c.if-eq.true) params
