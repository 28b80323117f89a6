-- What the writer asks of a value of a case.
use Rattle.std.specs.Prelude.{◌≡◌, ◌⊎◌, ℕ, encode_utf8}
use Rattle.canonical_abi.specs.Types.{Prim}
use Rattle.canonical_abi.specs.Labelled.{Payload, no_payload, payload, closed}
use Rattle.canonical_abi.specs.Values.{Value, HasType, HasPrimType, bool_value, unsigned_value, signed_value, char_value, plain_value, payload_value}
use Rattle.serde_json.specs.Data as json
use Rattle.serde_json.specs.Data.{Data}
use Rattle.serde_json.specs.Find.{of_integer}

-- the value is of this case, with a payload or without
abbrev pub HasCase : Value → ℕ → Type 0
HasCase v i = (v ≡ plain_value i) ⊎ ((w : Value) × (v ≡ payload_value i w))

-- the value is of case i, with a payload of its type where the case has one
abbrev pub HasPayload : Payload → ℕ → Value → Type 0
HasPayload no_payload i v = v ≡ plain_value i
HasPayload (payload t) i v = (w : Value) × HasType w (closed t) × (v ≡ payload_value i w)

-- the value is one of a primitive type
abbrev pub IsOfPrim : Value → Type 0
IsOfPrim v = (p : Prim) × HasPrimType v p

-- the JSON value of a value of a primitive type, and null for any other
abbrev pub data_of : Value → Data
data_of (bool_value b) = json.boolean b
data_of (unsigned_value w n) = json.number (json.unsigned n)
data_of (signed_value w z) = json.number (of_integer z)
data_of (char_value c) = json.string (encode_utf8 c)
data_of _ = json.null
