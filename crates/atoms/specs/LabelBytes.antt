-- The bytes of a label, wherever they stand.
use Rattle.std.specs.Prelude.{ℕ, List, take}
use Rattle.atoms.specs.declared.label.Bytes.{Bytes}
use Rattle.atoms.specs.declared.label.Bytes.TheVariants.{Inline, Heap}

-- the bytes that a label holds, within itself or on the heap
abbrev pub kept_bytes : Bytes → List ℕ
kept_bytes (Inline i) = take i.len i.bytes
kept_bytes (Heap b) = b.value.items
