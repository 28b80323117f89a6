-- The places of parts, by which comparing ends.
use Rattle.std.proofs.Common.{ℕ, Option, Some, None}
use Rattle.tables.specs.declared.tables.ValType.{ValType}
use Rattle.package_changes.specs.Comparing.{rank}

abbrev pub part_rank : Option ValType → ℕ
part_rank None = 0
part_rank (Some v) = rank v
