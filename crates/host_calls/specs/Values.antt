-- Core values as C has them: a kind and bits.
use Rattle.std.specs.Prelude.{◌≡◌, ◌==◌, ◌%◌, List, map, take, length, if◌then◌else◌}
use Rattle.canonical_abi.specs.declared.flat.Flat.{Flat}
use Rattle.canonical_abi.specs.declared.flat.Flat.TheVariants.{I32, I64}
use Rattle.host_calls.specs.declared.value.Value.{Value}

-- as it is read: an i32 if the kind is 0, of the low 32 bits, and otherwise an i64
abbrev pub flat_of : Value → Flat
flat_of v = if v.kind == 0 then I32 (v.bits % 4294967296) else I64 v.bits

-- as it is told: an i32 has the kind 0 and no bit above its 32, and an i64 the kind 1
abbrev pub core_value_of : Flat → Value
core_value_of (I32 number) = record { kind = 0; bits = number }
core_value_of (I64 bits) = record { kind = 1; bits = bits }

-- the front of an array tells these values
abbrev pub HoldsFlats : List Value → List Flat → Type 0
HoldsFlats values flats = take (length flats) values ≡ map core_value_of flats
