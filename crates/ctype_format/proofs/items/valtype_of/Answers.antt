use Rattle.ctype_format.proofs.IndicesOfOneByte.{index_of_one_byte}
use Rattle.ctype_format.proofs.items.valtype_of.Goals as goal

pub returns-in-len1-up : goal.returns-in-len1-up
returns-in-len1-up c = index_of_one_byte c.args.types c.args.bytes.now c.in-len1-up.len_at_least c.if-index-lt64.true c.if-index-types.true
