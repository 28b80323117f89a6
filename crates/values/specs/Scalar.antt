-- The values of primitive types other than string, and the core values that carry them.
use Rattle.std.specs.Prelude.{◌≡◌, ℕ, ◌%◌, ◌^◌}
use Rattle.canonical_abi.specs.Types.{Prim, boolean, unsigned, signed, scalar_value, int8, int16, int32, int64}
use Rattle.canonical_abi.specs.Values.{Value, bool_value, unsigned_value, signed_value, char_value}
use Rattle.canonical_abi.specs.Layout.{prim_kind}
use Rattle.canonical_abi.specs.Reading.{flat_bits}
use Rattle.canonical_abi.specs.Memory.{PrimIs}
use Rattle.canonical_abi.specs.Lowering.{core_of}
use Rattle.canonical_abi.specs.declared.flat.Flat.{Flat}
use Rattle.values.specs.declared.scalar.Scalar.{Scalar}
use Rattle.values.specs.declared.scalar.Scalar.TheVariants as scalar

-- the type that a scalar is of
abbrev pub prim_in : Scalar → Prim
prim_in (scalar.Bool b) = boolean
prim_in (scalar.S8 n) = signed int8
prim_in (scalar.U8 n) = unsigned int8
prim_in (scalar.S16 n) = signed int16
prim_in (scalar.U16 n) = unsigned int16
prim_in (scalar.S32 n) = signed int32
prim_in (scalar.U32 n) = unsigned int32
prim_in (scalar.S64 n) = signed int64
prim_in (scalar.U64 n) = unsigned int64
prim_in (scalar.Char code) = scalar_value

-- the value that a scalar stands for
abbrev pub value_in : Scalar → Value
value_in (scalar.Bool b) = bool_value b
value_in (scalar.S8 n) = signed_value int8 n
value_in (scalar.U8 n) = unsigned_value int8 n
value_in (scalar.S16 n) = signed_value int16 n
value_in (scalar.U16 n) = unsigned_value int16 n
value_in (scalar.S32 n) = signed_value int32 n
value_in (scalar.U32 n) = unsigned_value int32 n
value_in (scalar.S64 n) = signed_value int64 n
value_in (scalar.U64 n) = unsigned_value int64 n
value_in (scalar.Char code) = char_value code

-- the core value that carries a scalar
abbrev pub core_in : Scalar → Flat
core_in s = core_of (prim_kind (prim_in s)) (value_in s)

-- the scalar is of this type, and the low bits of the number stand for it
abbrev pub ScalarIs : Prim → ℕ → Scalar → Type 0
ScalarIs p n s = (prim_in s ≡ p) × PrimIs p (n % 2 ^ flat_bits p) (value_in s)
