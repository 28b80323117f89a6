use Rattle.value_text.proofs.FlagsInTurn.{FlagsPut}
use Rattle.value_text.proofs.puts.put_flags.Given as goal

abbrev pub invariant-loop-label : goal.invariant-loop-label
invariant-loop-label l = FlagsPut l.labels l.bits l.limit l.fn.room l.fn.at l.label-index l.rest l.count l.room l.end
