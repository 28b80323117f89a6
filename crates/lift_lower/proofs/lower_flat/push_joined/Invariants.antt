use Rattle.std.proofs.Common.{◌≡◌, ◌+◌, ◌++◌, drop, length}
use Rattle.canonical_abi.specs.Lowering.{joined_flats}
use Rattle.lift_lower.proofs.lower_flat.push_joined.Given as goal

abbrev pub invariant-loop-index : goal.invariant-loop-index
invariant-loop-index l =
    (l.flats.items ++ joined_flats (drop l.index l.kinds) (drop l.index l.carried) ≡ l.initial.flats.items ++ joined_flats l.kinds l.carried)
    × (length l.flats.items ≡ length l.initial.flats.items + l.index)
