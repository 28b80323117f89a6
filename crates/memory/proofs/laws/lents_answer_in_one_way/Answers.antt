use Rattle.memory.proofs.LentAllocatesInOneWay.{lents_in_one_way, lents_ignore_bytes}
use Rattle.memory.proofs.laws.lents_answer_in_one_way.Goals as goal

pub returns : goal.returns
returns c = record { one_way = lents_in_one_way; ignores = lents_ignore_bytes }
