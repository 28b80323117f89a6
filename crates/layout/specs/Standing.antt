-- What may stand directly in a definition of a table.
use Rattle.std.specs.Prelude.{ℕ, List as Listing, Option}
use Rattle.tables.specs.declared.tables.ValType.{ValType}

-- a name has another type, which is no name itself; a list its elements' type; a record its fields' types and their offsets; a variant the offset of its payload
-- and the payloads of its cases; flags the number of their labels
pub data Parts : Type 0 where
  Same : ValType → Parts
  List : ValType → Parts
  Record : Listing ValType → Listing ℕ → Parts
  Variant : ℕ → Listing (Option ValType) → Parts
  Flags : ℕ → Parts
