use Rattle.std.proofs.Common.{◌≡◌, ℕ, ◌*◌, ◌<◌, length, get_or}
use Rattle.canonical_abi.specs.Types.{variant_cases}
use Rattle.tables.specs.Closed.{closed_type}
use Rattle.ranges.specs.Plan.{IsBlank, IsRow}
use Rattle.ranges.proofs.rows.rows_of.Given as goal

abbrev pub invariant-loop-case : goal.invariant-loop-case
invariant-loop-case l =
    IsBlank l.caps (l.case * 16) × ((n : ℕ) → n < l.case → IsRow (variant_cases (closed_type l.table l.ty)) n l.caps (get_or l.nodes n 0)) × (length l.nodes ≡ 16)
