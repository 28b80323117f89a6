use Rattle.std.proofs.Common.{arith, rules}
use Rattle.atoms.proofs.AppendsGoOn.{appends_next}
use Rattle.atoms.proofs.writing.write_all.Goals as goal

pub loop-start-preserved : goal.loop-start-preserved
loop-start-preserved g c = record {
  within = omega (arith, c.split_at.ensures.back_len, c.in_ok-start.ensures.bound);
  written = appends_next _ _ _ _ _ _ _ c.split_at.ensures.back c.loop-start.invariant.written c.in_ok-start.ensures.bytes;
  works = search rules;
}
