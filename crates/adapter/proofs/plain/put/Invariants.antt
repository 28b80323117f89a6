use Rattle.std.proofs.Common.{◌≡◌, take}
use Rattle.adapter.proofs.plain.put.Given as goal

abbrev pub invariant-loop-flat : goal.invariant-loop-flat
invariant-loop-flat l = l.list.items ≡ take l.flat-index l.flats
