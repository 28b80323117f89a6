-- Bytes of a memory, as numbers.
use Rattle.std.specs.Prelude.{ℕ, ◌<◌, List, slice_index}

-- every number of the list is a byte
abbrev pub AreBytes : List ℕ → Type 0
AreBytes m = (i : ℕ) → slice_index m i < 256
