use Rattle.memory.specs.HeadersLaws.{HeadersKeepsLimit}
use Rattle.memory.proofs.laws.headers_keep_the_limit.Goals as goal

pub returns : goal.returns
returns c = HeadersKeepsLimit
