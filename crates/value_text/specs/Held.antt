-- The text of the value that a memory holds.
use Rattle.std.specs.Prelude.{◌≡◌, ℕ, ◌+◌, ◌≤◌, List, length, Result}
use Rattle.canonical_abi.specs.Labelled.{LabelledType, closed, Payload, no_payload, payload}
use Rattle.canonical_abi.specs.Values.{Value, plain_value, payload_value}
use Rattle.canonical_abi.specs.Memory.{Holds}
use Rattle.canonical_abi.specs.Layout.{size}
use Rattle.serde_json.specs.Written.{compact_text}
use Rattle.value_text.specs.Function.{json_of}
use Rattle.value_text.specs.Puts.{PutsWithin}

-- m holds a value of the type at a
abbrev pub IsHeld : LabelledType → List ℕ → ℕ → Type 0
IsHeld t m a = (v : Value) × Holds (closed t) m a v

-- the text of the value that m holds at a was put there, or it passes the limit
abbrev pub PutsHeld : {E : Type 0} → ℕ → LabelledType → List ℕ → ℕ → List ℕ → ℕ → Result ℕ E → List ℕ → Type 0
PutsHeld limit t m a old at done new = (v : Value) → Holds (closed t) m a v → PutsWithin limit (compact_text (json_of t v)) old at done new

-- v is of case i, with the payload that m holds at a where the case has one
abbrev pub PayloadHolds : Payload → List ℕ → ℕ → ℕ → Value → Type 0
PayloadHolds no_payload m a i v = v ≡ plain_value i
PayloadHolds (payload t) m a i v = (w : Value) × Holds (closed t) m a w × (v ≡ payload_value i w)

-- the payload, where the case has one, ends inside the memory
abbrev pub PayloadFits : Payload → List ℕ → ℕ → Type 0
PayloadFits no_payload m a = Unit {0}
PayloadFits (payload t) m a = a + size (closed t) ≤ length m
