use Rattle.std.proofs.Common.{◌≡◌, length, arith, rules}
use Rattle.std.proofs.lemmas.Grind.{common_steps}
use Rattle.layout.proofs.KindsOfBits.{other-count, other-kind, next-told}
use Rattle.layout.proofs.signature.are_passed.Goals as goal

pub returns-then-flats-from : goal.returns-then-flats-from
returns-then-flats-from c =
    let k = c.kinds.inside in
    let count = other-count c.args.flats.now k.count k.wide c.args.kinds.now (omega arith) c.kinds.view_is in
    grind (arith, common_steps, count)

pub returns-then-ne : goal.returns-then-ne
returns-then-ne c =
    let k = c.kinds.inside in
    let same = other-kind c.args.flats.now c.loop-flat.flat-index k.count c.loop-flat.wide k.wide c.args.kinds.now _ _ _ (omega arith) (omega arith) (omega arith)
    c.loop-flat.invariant c.kinds.view_is c.kind.ensures c.lowest_kind.ensures in
    grind (arith, common_steps, same)

pub loop-flat-preserved : goal.loop-flat-preserved
loop-flat-preserved c =
    let same : c.kind.result ≡ c.lowest_kind.result = search rules in
    next-told c.args.flats.now c.loop-flat.flat-index (length c.args.flats.now) c.loop-flat.wide _ _ _ _ (omega arith) (omega arith) c.loop-flat.invariant c.kind.ensures c.lowest_kind.ensures same
