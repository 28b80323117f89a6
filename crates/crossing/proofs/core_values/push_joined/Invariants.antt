use Rattle.std.proofs.Common.{◌≡◌, ◌+◌, ◌++◌, drop, length}
use Rattle.canonical_abi.specs.Lowering.{joined_flats}
use Rattle.crossing.proofs.core_values.push_joined.Given as goal

abbrev pub invariant-loop-index : goal.invariant-loop-index
invariant-loop-index g l =
    (l.out.items ++ joined_flats (drop l.index l.kinds) (drop l.index l.carried) ≡ l.initial.out.items ++ joined_flats l.kinds l.carried)
    × (length l.out.items ≡ length l.initial.out.items + l.index)
