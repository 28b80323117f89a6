use Rattle.std.proofs.Common.{arith}
use Rattle.ctype_format.proofs.ShortestSpellings.{appended}
use Rattle.ctype_format.proofs.writing.put_u32.Goals as goal

pub returns-in-Ok : goal.returns-in-Ok
returns-in-Ok c = appended 128 c.args.out.now.items c.write_u32.new.out.items c.args.value (omega arith) (omega arith) (omega (arith, c.ranges.value.fits)) c.in-Ok.ensures.ok
