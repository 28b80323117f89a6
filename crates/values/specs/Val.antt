-- The value that a `Val` stands for.
use Rattle.std.specs.Prelude.{Option, ◌≡◌, ◌⊎◌, ℕ, Vec, Box, String, Some, None, string_bytes}
use Rattle.std.specs.Global.{Global}
use Rattle.canonical_abi.specs.Types.{int8, int16, int32, int64}
use Rattle.canonical_abi.specs.Values.{Value, values_of, bool_value, unsigned_value, signed_value, char_value, string_value, list_value, record_value, plain_value, payload_value, flags_value}
use Rattle.values.specs.declared.val.Val.{Val, fold-Val, String as Text, List as Listed, Record, Variant, Flags}
use Rattle.values.specs.declared.val.Val.TheOpen.{Val-F}

-- one level, with the value of each child in its place
abbrev pub value_step : Val-F Value → Value
value_step (Val-F.Bool b) = bool_value b
value_step (Val-F.S8 n) = signed_value int8 n
value_step (Val-F.U8 n) = unsigned_value int8 n
value_step (Val-F.S16 n) = signed_value int16 n
value_step (Val-F.U16 n) = unsigned_value int16 n
value_step (Val-F.S32 n) = signed_value int32 n
value_step (Val-F.U32 n) = unsigned_value int32 n
value_step (Val-F.S64 n) = signed_value int64 n
value_step (Val-F.U64 n) = unsigned_value int64 n
value_step (Val-F.Char c) = char_value c
value_step (Val-F.String s) = string_value (string_bytes s)
value_step (Val-F.List v) = list_value (values_of v.items)
value_step (Val-F.Record v) = record_value (values_of v.items)
value_step (Val-F.Variant i None) = plain_value i
value_step (Val-F.Variant i (Some b)) = payload_value i b.value
value_step (Val-F.Flags n) = flags_value n

-- the value that a program's `Val` is, down to all its children
abbrev pub value_of : Val → Value
value_of = fold-Val Value value_step

-- a variant of a case, with its payload if there is one
abbrev pub variant_value : ℕ → Option (Box Val Global) → Value
variant_value i None = plain_value i
variant_value i (Some b) = payload_value i (value_of b.value)

-- a value that is not of a primitive type, or is a text
abbrev pub IsCompound : Val → Type 0
IsCompound v =
    ((s : String Global) × (v ≡ Text s)) ⊎ (((l : Vec Val Global) × (v ≡ Listed l)) ⊎ (((r : Vec Val Global) × (v ≡ Record r))
    ⊎ (((i : ℕ) × (o : Option (Box Val Global)) × (v ≡ Variant i o)) ⊎ ((n : ℕ) × (v ≡ Flags n)))))
