-- The digits of a number that is named are written out.
use Rattle.std.proofs.Common.{rules}
use Rattle.std.specs.Fmt.{digits}
use Rattle.host_calls.proofs.status.Status.of.Goals as goal

pub returns-in-Err-LongBinary-clause-line : goal.returns-in-Err-LongBinary-clause-line
unfolding digits
returns-in-Err-LongBinary-clause-line c = search rules

pub returns-in-Err-LongText-clause-line : goal.returns-in-Err-LongText-clause-line
unfolding digits
returns-in-Err-LongText-clause-line c = search rules

pub returns-in-Err-NoMemory-clause-line : goal.returns-in-Err-NoMemory-clause-line
unfolding digits
returns-in-Err-NoMemory-clause-line c = search rules
