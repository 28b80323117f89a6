use Rattle.std.proofs.Common.{◌<◌, ◌≤◌, arith}
use Rattle.memory.specs.Holes.{holes_of}
use Rattle.memory.proofs.HoleTails.{higher, all_given}
use Rattle.memory.proofs.holes.Holes.grow.Goals as goal

pub invariant_of-self : goal.invariant_of-self
invariant_of-self c =
    let s = c.args.self.now in
    let r = c.requires in
    record {
      limited = r.limited;
      units = r.units;
      room = r.room;
      apart = higher 0 (holes_of 0 s.row) s.limit c.args.limit s.apart (omega (arith, r.more));
    }

pub returns-clause-longer : goal.returns-clause-longer
returns-clause-longer c =
    let s = c.args.self.now in
    all_given (holes_of 0 s.row) (holes_of 0 c.give.new.self.row) s.limit c.args.limit c.give.result s.apart c.give.ensures.back
