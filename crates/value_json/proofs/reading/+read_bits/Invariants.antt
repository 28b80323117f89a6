use Rattle.std.proofs.Common.{length}
use Rattle.value_json.proofs.reading.+read_bits.Given as goal

abbrev pub decreases-read_bits : goal.decreases-read_bits
decreases-read_bits l = length l.labels.now
