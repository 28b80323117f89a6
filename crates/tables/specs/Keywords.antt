-- The keywords of types.
use Rattle.std.specs.Prelude.{ℕ, List, codes}
use Rattle.tables.specs.declared.tables.Primitive.{Primitive}
use Rattle.tables.specs.declared.tables.Primitive.TheVariants as primitive

-- the keyword of a primitive type
abbrev pub primitive_keyword : Primitive → List ℕ
primitive_keyword primitive.Bool = codes "bool"
primitive_keyword primitive.S8 = codes "s8"
primitive_keyword primitive.U8 = codes "u8"
primitive_keyword primitive.S16 = codes "s16"
primitive_keyword primitive.U16 = codes "u16"
primitive_keyword primitive.S32 = codes "s32"
primitive_keyword primitive.U32 = codes "u32"
primitive_keyword primitive.S64 = codes "s64"
primitive_keyword primitive.U64 = codes "u64"
primitive_keyword primitive.Char = codes "char"
