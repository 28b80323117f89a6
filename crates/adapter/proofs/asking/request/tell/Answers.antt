use Rattle.std.proofs.Common.{inl, inr, arith}
use Rattle.canonical_abi.specs.Requests.{request}
use Rattle.adapter.proofs.asking.RequestsOfParts.{told-one}
use Rattle.adapter.proofs.asking.request.tell.Goals as goal
use Rattle.adapter.proofs.asking.request.tell.Goals.{then-count-slots, else-count-slots}

pub returns-clause-told : goal.returns-clause-told
returns-clause-told c =
    let r = request c.args.align c.args.size in
    elim c.if-count-slots.branch [
      | then-count-slots w ↦ told-one c.args.slots.now c.args.count.now c.args.left.now r _ _ _ (inl (omega arith, w.slots-is)) (omega arith) (omega (arith, c.requires.within))
      | else-count-slots w ↦ told-one c.args.slots.now c.args.count.now c.args.left.now r _ _ _ (inr (omega arith, w.slots-is)) (omega arith) (omega (arith, c.requires.within))
    ]
