use Rattle.memory.proofs.HeadersAlike.{headers_ignore_live, headers_in_one_way}
use Rattle.memory.proofs.laws.headers_answer_in_one_way.Goals as goal

pub returns : goal.returns
returns c = record { one_way = headers_in_one_way; ignores = headers_ignore_live }
