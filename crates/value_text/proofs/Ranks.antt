-- A payload's place in the table, by which the walk ends.
use Rattle.std.proofs.Common.{ℕ, ◌≤◌, IsTrue, Option, Some, None, arith}
use Rattle.tables.specs.Tables.{is_below, option_all}
use Rattle.tables.specs.declared.tables.ValType.{ValType}
use Rattle.value_json.proofs.RanksOfTypes.{rank, rank-below}

abbrev pub payload_rank : Option ValType → ℕ
payload_rank None = 0
payload_rank (Some v) = rank v

pub payload-below : (n : ℕ) (v : Option ValType) → IsTrue (option_all (is_below n) v) → payload_rank v ≤ n
payload-below n None h = omega arith
payload-below n (Some v) h = rank-below n v h
