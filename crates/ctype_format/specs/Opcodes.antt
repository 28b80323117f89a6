-- The first bytes of types.
use Rattle.std.specs.Prelude.{ℕ, Option, Some, None, ◌==◌, if◌then◌else◌, option_map}
use Rattle.ctype_format.specs.declared.raw.Primitive.{Primitive}
use Rattle.ctype_format.specs.declared.raw.Primitive.TheVariants as prim
use Rattle.ctype_format.specs.declared.opcode.Opcode.{Opcode}
use Rattle.ctype_format.specs.declared.opcode.Opcode.TheVariants as op

-- the primitive type that this byte is in Binary.md; none for floats and other bytes
unfoldable pub primitive_of : ℕ → Option Primitive
primitive_of b =
    if b == 0x7f then Some prim.Bool else (if b == 0x7e then Some prim.S8 else (if b == 0x7d then Some prim.U8
    else (if b == 0x7c then Some prim.S16 else (if b == 0x7b then Some prim.U16 else (if b == 0x7a then Some prim.S32
    else (if b == 0x79 then Some prim.U32 else (if b == 0x78 then Some prim.S64 else (if b == 0x77 then Some prim.U64
    else (if b == 0x74 then Some prim.Char else (if b == 0x73 then Some prim.String else None))))))))))

-- what a type begins with that has this first byte in Binary.md; none for types that are left out
unfoldable pub opcode_of : ℕ → Option Opcode
opcode_of b =
    if b == 0x72 then Some op.Record else (if b == 0x71 then Some op.Variant else (if b == 0x70 then Some op.List
    else (if b == 0x6f then Some op.Tuple else (if b == 0x6e then Some op.Flags else (if b == 0x6d then Some op.Enum
    else (if b == 0x6b then Some op.Option else (if b == 0x6a then Some op.Result else (if b == 0x40 then Some op.Function
    else (if b == 0x41 then Some op.Component else (if b == 0x42 then Some op.Instance else option_map op.Primitive (primitive_of b)))))))))))
