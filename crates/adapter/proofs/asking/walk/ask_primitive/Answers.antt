use Rattle.canonical_abi.specs.Values.{char_value}
use Rattle.adapter.proofs.asking.RequestsOfParts.{told-none, reads-number, reads-char, scalar-true}
use Rattle.adapter.proofs.asking.walk.ask_primitive.Goals as goal

pub returns-in_default-clause-asks : goal.returns-in_default-clause-asks
returns-in_default-clause-asks c =
    let (v, e) = reads-number c.args.primitive _ c.in_default.not-Char in
    (v, e, told-none c.args.slots.now c.args.count.now c.args.left.now)

pub returns-in-Some-clause-asks : goal.returns-in-Some-clause-asks
returns-in-Some-clause-asks c =
    rw c.in-Char.is (char_value c.u32_at.result, rw (← c.u32_at.ensures) (reads-char c.u32_at.result (scalar-true c.u32_at.result c.in-Some.ensures.value.0)), told-none c.args.slots.now c.args.count.now c.args.left.now)
