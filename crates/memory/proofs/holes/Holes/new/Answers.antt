use Rattle.std.proofs.Common.{ℕ, ◌<◌, ◌/◌, ◌^◌, replicate, arith}
use Rattle.std.proofs.Math.Nat.{one-le-pow}
use Rattle.std.proofs.lemmas.List.{length-replicate, length-set}
use Rattle.memory.proofs.HoleRows.{one_hole, whole_apart}
use Rattle.memory.proofs.holes.Holes.new.Goals as goal

pub invariant_of-result : goal.invariant_of-result
invariant_of-result c =
    let r = c.requires in
    let n = 2 ^ c.doublings_to.result in
    let some : 0 < 2 ^ c.doublings_to.result = one-le-pow c.doublings_to.result 2 (omega arith) in
    let one = one_hole n (c.args.limit / 8) c.args.limit some (omega (arith, r.units)) in
    record {
      limited = omega (arith, r.within, r.limited);
      units = r.units;
      room = rw (c.put.ensures, c.in_ok-row.ensures) (omega (arith, r.within, r.most, c.doublings_to.ensures.enough, length-set (replicate n 0) 0 (c.args.limit / 8), length-replicate {A = ℕ} n 0));
      apart = rw (c.put.ensures, c.in_ok-row.ensures, one) (whole_apart c.args.limit r.units);
    }

pub returns-clause-room : goal.returns-clause-room
returns-clause-room c =
    let n = 2 ^ c.doublings_to.result in
    rw (c.put.ensures, c.in_ok-row.ensures) (omega (arith, c.requires.most, c.doublings_to.ensures.enough, length-set (replicate n 0) 0 (c.args.limit / 8), length-replicate {A = ℕ} n 0))

pub returns-clause-whole : goal.returns-clause-whole
returns-clause-whole c =
    let n = 2 ^ c.doublings_to.result in
    let some : 0 < 2 ^ c.doublings_to.result = one-le-pow c.doublings_to.result 2 (omega arith) in
    rw (c.put.ensures, c.in_ok-row.ensures) (one_hole n (c.args.limit / 8) c.args.limit some (omega (arith, c.requires.units)))
