use Rattle.std.proofs.Common.{◌≡◌, ◌*◌, ◌/◌, arith}
use Rattle.memory.proofs.HoleTails.{tail_of_none, tail_of_other, tail_of_last}
use Rattle.memory.proofs.holes.Holes.tail.Goals as goal

pub returns-in_default : goal.returns-in_default
returns-in_default c =
    let s = c.args.self.now in
    tail_of_none s.row s.limit (s.limit / 8) s.apart (omega (arith, s.units)) c.in_default.ensures

pub returns-then-before-number : goal.returns-then-before-number
returns-then-before-number c =
    let s = c.args.self.now in
    let found = c.in-Some.ensures in
    tail_of_other s.row s.limit (s.limit / 8) s.apart (omega (arith, s.units)) c.in-Some.before found.1 found.0 (λ is. c.if-before-number.true (omega (arith, c.number.ensures))) found.2

pub returns : goal.returns
returns c =
    let s = c.args.self.now in
    let found = c.in-Some.ensures in
    tail_of_last s.row s.limit (s.limit / 8) s.apart (omega (arith, s.units)) c.in-Some.before (c.in-Some.before * 8) found.1 (omega (arith, c.if-before-number.false, c.number.ensures)) (omega arith)
