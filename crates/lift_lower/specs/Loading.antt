-- What stands in a block.
use Rattle.std.specs.Prelude.{ℕ, List, Result}
use Rattle.canonical_abi.specs.Types.{ClosedType, Fields, record_type}
use Rattle.canonical_abi.specs.Values.{Value}
use Rattle.canonical_abi.specs.Layout.{size, align}
use Rattle.canonical_abi.specs.Reading.{reading, reading_fields, block_at, ◌>>=◌}
use Rattle.canonical_abi.specs.declared.trap.TrapKind.{TrapKind}

-- the value at an address once its block is tested, or the first fault
abbrev pub reading_block : ClosedType → List ℕ → ℕ → Result Value TrapKind
reading_block t m at = block_at m at (align t) (size t) >>= λ a. reading t m a

-- the values of a record's fields at an address once its block is tested, or the first fault
abbrev pub reading_members : Fields → List ℕ → ℕ → Result (List Value) TrapKind
reading_members ts m at = block_at m at (align (record_type ts)) (size (record_type ts)) >>= λ a. reading_fields ts m a 0
