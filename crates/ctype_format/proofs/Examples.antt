-- Worked examples: what bytes spell, which fault is the first where they spell nothing, and what is written.
use Rattle.std.proofs.Common.{◌≡◌, inl, inr, ℕ, zero, suc, ◌<◌, ◌==◌, List, [], ◌∷◌, ◌++◌, map, replicate, length, take, Some, None, Result, Ok, Err, true, false, codes, refl, ap, arith, sym, ◌∙◌}
use Rattle.std.specs.Prelude.{⊤, nat_lt}
use Rattle.std.specs.declared.boxed.Box.{Box}
use Rattle.std.specs.declared.alloc.Global.{Global}
use Rattle.std.specs.Global.{Vec}
use Rattle.std.specs.Str.{is_utf8, chars}
use Rattle.std.specs.Char.{encode_utf8}
use Rattle.atoms.specs.Leb128.{groups_at, SpellsU32}
use Rattle.atoms.specs.Label.{is_label}
use Rattle.atoms.specs.FullName.{is_package_label, is_version, full_name_text}
use Rattle.atoms.specs.Production.{give, times, run}
use Rattle.ctype_format.specs.declared.error.Feature.TheVariants.{Float, Resource}
use Rattle.ctype_format.specs.declared.error.Fault.TheVariants.{NotComponent, Truncated, BadSection, UnknownOpcode, Unsupported, BadIndex, EmptyType, Limit, SizeMismatch, Trailing, BadName, Overlong}
use Rattle.ctype_format.specs.declared.error.Stuck.{Stuck}
use Rattle.ctype_format.specs.declared.error.Stuck.TheVariants.{End, At, Past}
use Rattle.ctype_format.specs.declared.error.BinError.TheVariants as errors
use Rattle.ctype_format.specs.declared.raw.Primitive.TheVariants as prim
use Rattle.ctype_format.specs.declared.raw.RawValType.{RawValType}
use Rattle.ctype_format.specs.declared.raw.RawValType.TheVariants as valtypes
use Rattle.ctype_format.specs.declared.raw.RawAlias.TheVariants as aliases
use Rattle.ctype_format.specs.declared.raw.RawDescription.TheVariants as descriptions
use Rattle.ctype_format.specs.declared.opcode.Opcode.TheVariants as op
use Rattle.ctype_format.specs.declared.scope.Scope.{Scope}
use Rattle.ctype_format.specs.Raw.{Prim, Record, Variant, ListOf, Tuple, FlagSet, Enumeration, OptionOf, ResultOf, Define, Func, Component, Instance, Decl, Entry, Alias, Import, Export, Decls, none, then, BinaryFile, TypeEntry}
use Rattle.ctype_format.specs.Bytes.{Bytes, NoNumber, byte, several, remaining, u32, s33, sized, choose}
use Rattle.ctype_format.specs.Names.{cut_at, name_view, is_full_name, is_extern_name}
use Rattle.ctype_format.specs.Opcodes.{primitive_of, opcode_of}
use Rattle.ctype_format.specs.Grammar.{index, some, some_upto, zero_byte, flag_byte, max_flags, max_cases, label, utf8, extern_name, primitive, type_index, valtype, optional_valtype, field, case, record_type, variant_type, list_type, tuple_type, flags_type, enum_type, option_type, result_entry, outcome, function_entry, plain_entry, opcode, instance_alias, outer_type, alias_entry, description, external, decl, scope_of, type, new_scope}
use Rattle.ctype_format.specs.File.{exactly, max_length, Decodes, custom_content, custom, head, section, trailing, entry_of_type, type_section, exported, export_section, component_file, decoded}
use Rattle.ctype_format.specs.declared.name.ExternName.TheVariants as ext
use Rattle.ctype_format.specs.declared.raw.RawExport.{RawExport}
use Rattle.ctype_format.specs.declared.raw.RawField.{RawField}
use Rattle.ctype_format.specs.declared.raw.RawCase.{RawCase}
use Rattle.atoms.specs.declared.label.Label.{Label}
use Rattle.ctype_format.specs.declared.raw.RawDefinedType.TheVariants as v
use Rattle.ctype_format.specs.declared.raw.RawType.{RawType}
use Rattle.ctype_format.specs.declared.raw.RawType as t
use Rattle.ctype_format.specs.declared.raw.RawDecl.{RawDecl}
use Rattle.ctype_format.specs.declared.raw.RawDecl as d
use Rattle.atoms.specs.FullNameView.{name_parts_of}
use Rattle.atoms.specs.declared.full_name.FullName.{FullName}
use Rattle.ctype_format.specs.View.{decls_of, type_view, decl_view, parts_file}
use Rattle.ctype_format.proofs.ScopedTypeViews.{view-Component, view-Instance}
use Rattle.ctype_format.specs.Shortest.{groups}
use Rattle.ctype_format.specs.Writing.{file_bytes, type_bytes, decl_bytes}

-- what a proof unfolds to compute on bytes that are written out
unfoldable pub bytes_written_out : ⊤
unfolding is_utf8 chars encode_utf8 groups_at is_label is_package_label times run sized is_full_name is_extern_name primitive_of opcode_of label utf8 extern_name primitive type_index valtype optional_valtype field case record_type variant_type list_type tuple_type flags_type enum_type option_type result_entry outcome function_entry plain_entry opcode instance_alias outer_type alias_entry description external decl scope_of type exactly custom_content custom head section trailing entry_of_type type_section exported export_section component_file decoded groups file_bytes type_bytes
bytes_written_out = tt

abbrev p1_types : List ℕ
p1_types = 0x01 ∷ 0x41 ∷ 0x02
    ∷ 0x01 ∷ 0x42 ∷ 0x02
    ∷ 0x01 ∷ 0x40 ∷ 0x01 ∷ 0x01 ∷ 0x78 ∷ 0x79 ∷ 0x00 ∷ 0x79
    ∷ 0x04 ∷ 0x00 ∷ 0x01 ∷ 0x66 ∷ 0x01 ∷ 0x00
    ∷ 0x04 ∷ 0x00 ∷ 0x05 ∷ 0x61 ∷ 0x3a ∷ 0x62 ∷ 0x2f ∷ 0x63 ∷ 0x05 ∷ 0x00 ∷ []

abbrev p1_exports : List ℕ
p1_exports = 0x01 ∷ 0x00 ∷ 0x07 ∷ 0x70 ∷ 0x61 ∷ 0x63 ∷ 0x6b ∷ 0x61 ∷ 0x67 ∷ 0x65 ∷ 0x03 ∷ 0x00 ∷ 0x00 ∷ []

abbrev p1_mark : List ℕ
p1_mark = 0x00 ∷ 0x61 ∷ 0x73 ∷ 0x6d ∷ 0x0d ∷ 0x00 ∷ 0x01 ∷ 0x00 ∷ []

abbrev p1 : List ℕ
p1 = p1_mark ++ (0x07 ∷ 0x1e ∷ p1_types ++ (0x0b ∷ 0x0d ∷ p1_exports))

abbrev p1_function : TypeEntry
p1_function = Func (record { params = record { label = codes "x"; ty = valtypes.Primitive prim.U32 } ∷ []; outcome = Some (valtypes.Primitive prim.U32) })

abbrev p1_interface : TypeEntry
p1_interface = Instance (decls_of (Entry p1_function ∷ Export (codes "f") (descriptions.Function 0) ∷ []))

abbrev p1_file : BinaryFile
p1_file = record {
  types = Component (decls_of (Entry p1_interface ∷ Export (codes "a:b/c") (descriptions.Instance 0) ∷ [])) ∷ [];
  exports = record { name = codes "package"; type = 0 } ∷ [];
}

p1-read : decoded p1 ≡ Ok p1_file
unfolding bytes_written_out
p1-read = refl

p1-written : file_bytes p1_file ≡ p1
unfolding bytes_written_out
p1-written = refl

p1-cut : decoded p1_mark ≡ Err (errors.At Truncated 8)
unfolding bytes_written_out
p1-cut = refl

-- ---- bytes

-- one byte, and none
byte-one : byte.read (5 ∷ 6 ∷ []) ≡ Ok (5, 6 ∷ [])
byte-one = refl

byte-end : byte.read [] ≡ Err End
byte-end = refl

two-bytes : (several 2).read (1 ∷ 2 ∷ 3 ∷ []) ≡ Ok (1 ∷ 2 ∷ [], 3 ∷ [])
two-bytes = refl

two-bytes-short : (several 2).read (1 ∷ []) ≡ Err End
two-bytes-short = refl

two-bytes-spelled : (several 2).spells (1 ∷ 2 ∷ []) (1 ∷ 2 ∷ [])
two-bytes-spelled = (refl, refl)

two-bytes-stop : (several 2).stops (1 ∷ 2 ∷ []) (1 ∷ 2 ∷ []) (Some 3)
two-bytes-stop = (refl, refl)

two-bytes-fail : (several 2).fails (1 ∷ []) End
two-bytes-fail = (omega arith, refl)

one-byte-no-two : (several 2).spells (1 ∷ []) (1 ∷ []) → ⊥
one-byte-no-two s = let e : 1 ≡ 2 = s.0 in omega (arith, e)

two-bytes-do-not-fail : (f : Stuck) → (several 2).fails (1 ∷ 2 ∷ 3 ∷ []) f → ⊥
two-bytes-do-not-fail f s = let e : 3 < 2 = s.0 in omega (arith, e)

all-left : remaining.read (1 ∷ 2 ∷ []) ≡ Ok (0, [])
all-left = refl

all-left-spelled : remaining.spells (1 ∷ 2 ∷ []) 0
all-left-spelled = refl

not-all-left : remaining.stops (1 ∷ []) 0 (Some 2) → ⊥
not-all-left s = let e = s.1 in cc

-- ---- numbers

u32-two-bytes : u32.read (0x80 ∷ 0x00 ∷ 9 ∷ []) ≡ Ok (0, 9 ∷ [])
unfolding bytes_written_out
u32-two-bytes = refl

u32-three-bytes : u32.read (0xe5 ∷ 0x8e ∷ 0x26 ∷ []) ≡ Ok (624485, [])
unfolding bytes_written_out
u32-three-bytes = refl

u32-greatest : u32.read (0xff ∷ 0xff ∷ 0xff ∷ 0xff ∷ 0x0f ∷ []) ≡ Ok (4294967295, [])
unfolding bytes_written_out
u32-greatest = refl

u32-overlong : u32.read (0xff ∷ 0xff ∷ 0xff ∷ 0xff ∷ 0x1f ∷ 9 ∷ []) ≡ Err (At Overlong 6)
unfolding bytes_written_out
u32-overlong = refl

u32-six-bytes : u32.read (0x80 ∷ 0x80 ∷ 0x80 ∷ 0x80 ∷ 0x80 ∷ 0x00 ∷ []) ≡ Err (At Overlong 6)
unfolding bytes_written_out
u32-six-bytes = refl

u32-cut : u32.read (0x80 ∷ []) ≡ Err End
unfolding bytes_written_out
u32-cut = refl

u32-spelled : u32.spells (0xe5 ∷ 0x8e ∷ 0x26 ∷ []) 624485
u32-spelled = record { ends = (omega arith, omega arith, (omega arith, omega arith, omega arith)); short = omega arith; fifth = omega arith; value = refl }

u32-fails-early : u32.fails (0x80 ∷ []) End
u32-fails-early = inl ((0 ∷ [], 0, omega arith, record { ends = (omega arith, omega arith, omega arith); short = omega arith; fifth = omega arith; value = refl }), refl)

-- no front of these bytes is a number, and no more bytes make one
overlong_front : (n k : ℕ) → SpellsU32 (take k (0xff ∷ 0xff ∷ 0xff ∷ 0xff ∷ 0x1f ∷ [])) n → ⊥
overlong_front n zero s = s.ends
overlong_front n (suc zero) s = let e : 255 < 128 = s.ends in omega (arith, e)
overlong_front n (suc (suc zero)) s = let e : 255 < 128 = s.ends.2 in omega (arith, e)
overlong_front n (suc (suc (suc zero))) s = let e : 255 < 128 = s.ends.2.2 in omega (arith, e)
overlong_front n (suc (suc (suc (suc zero)))) s = let e : 255 < 128 = s.ends.2.2.2 in omega (arith, e)
overlong_front n (suc (suc (suc (suc (suc k))))) s = let e : 0x1f < 16 = s.fifth in omega (arith, e)

u32-fails-overlong : u32.fails (0xff ∷ 0xff ∷ 0xff ∷ 0xff ∷ 0x1f ∷ []) (At Overlong 5)
u32-fails-overlong = inr ((overlong_front, λ early. let e : 0x1f < 16 = early.3.fifth in omega (arith, e)), refl)

u32-number-here : NoNumber SpellsU32 (0x05 ∷ []) → ⊥
u32-number-here h = h.0 5 1 (record { ends = omega arith; short = omega arith; fifth = omega arith; value = refl })

u32-not-open : u32.spells (0x80 ∷ []) 0 → ⊥
u32-not-open s = let e : 0x80 < 128 = s.ends in omega (arith, e)

s33-64 : s33.read (0xc0 ∷ 0x00 ∷ []) ≡ Ok (64, [])
unfolding bytes_written_out
s33-64 = refl

s33-63 : s33.read (0x3f ∷ []) ≡ Ok (63, [])
unfolding bytes_written_out
s33-63 = refl

s33-greatest : s33.read (0xff ∷ 0xff ∷ 0xff ∷ 0xff ∷ 0x0f ∷ []) ≡ Ok (4294967295, [])
unfolding bytes_written_out
s33-greatest = refl

s33-negative : s33.read (0x40 ∷ []) ≡ Err (At (UnknownOpcode 0x40) 1)
unfolding bytes_written_out
s33-negative = refl

s33-negative-two : s33.read (0xf9 ∷ 0x7f ∷ []) ≡ Err (At (UnknownOpcode 0xf9) 2)
unfolding bytes_written_out
s33-negative-two = refl

s33-negative-five : s33.read (0xff ∷ 0xff ∷ 0xff ∷ 0xff ∷ 0x7f ∷ []) ≡ Err (At (UnknownOpcode 0xff) 5)
unfolding bytes_written_out
s33-negative-five = refl

s33-negative-least : s33.read (0x80 ∷ 0x80 ∷ 0x80 ∷ 0x80 ∷ 0x70 ∷ []) ≡ Err (At (UnknownOpcode 0x80) 5)
unfolding bytes_written_out
s33-negative-least = refl

s33-overlong : s33.read (0xff ∷ 0xff ∷ 0xff ∷ 0xff ∷ 0x6f ∷ []) ≡ Err (At Overlong 5)
unfolding bytes_written_out
s33-overlong = refl

s33-six-bytes : s33.read (0x80 ∷ 0x80 ∷ 0x80 ∷ 0x80 ∷ 0x80 ∷ 0x00 ∷ []) ≡ Err (At Overlong 6)
unfolding bytes_written_out
s33-six-bytes = refl

s33-sign-clear : s33.spells (0x40 ∷ []) 64 → ⊥
s33-sign-clear s = let e : 0x40 < 64 = s.ends in omega (arith, e)

-- ---- a part of exactly so many bytes

abbrev one_in : ℕ → Bytes ℕ
one_in n = sized Past n byte

abbrev two_in : ℕ → Bytes (List ℕ)
two_in n = sized Past n (several 2)

sized-whole : (one_in 1).read (5 ∷ 6 ∷ []) ≡ Ok (5, 6 ∷ [])
unfolding bytes_written_out
sized-whole = refl

-- it ends before its section: the fault is at the section's end
sized-left : (one_in 2).read (5 ∷ 6 ∷ 7 ∷ 8 ∷ 9 ∷ []) ≡ Err (At SizeMismatch 3)
unfolding bytes_written_out
sized-left = refl

-- it goes on past its section
sized-past : (two_in 1).read (5 ∷ 6 ∷ 7 ∷ []) ≡ Err (At SizeMismatch 2)
unfolding bytes_written_out
sized-past = refl

-- the section's end is past the input
sized-cut : (one_in 4).read (5 ∷ 6 ∷ []) ≡ Err (Past 2)
unfolding bytes_written_out
sized-cut = refl

-- the same, and it goes on past the input
sized-ended : (two_in 4).read (5 ∷ []) ≡ Err End
unfolding bytes_written_out
sized-ended = refl

-- a fault in a section is told from the end of the input
sized-fault : (sized Past 1 zero_byte).read (5 ∷ 6 ∷ 7 ∷ []) ≡ Err (At (UnknownOpcode 5) 3)
unfolding bytes_written_out
sized-fault = refl

-- so is a section in a section
sized-sized : (sized Past 3 (one_in 5)).read (5 ∷ 6 ∷ 7 ∷ 8 ∷ []) ≡ Err (At SizeMismatch 1)
unfolding bytes_written_out
sized-sized = refl

sized-spelled : (two_in 2).spells (5 ∷ 6 ∷ []) (5 ∷ 6 ∷ [])
unfolding sized
sized-spelled = (refl, (refl, refl))

sized-stops : (sized Past 2 remaining).stops (5 ∷ 6 ∷ []) 0 (Some 7)
unfolding sized
sized-stops = (refl, (refl, refl))

sized-not-spelled : (two_in 3).spells (5 ∷ 6 ∷ []) (5 ∷ 6 ∷ []) → ⊥
unfolding sized
sized-not-spelled s = let e : 2 ≡ 3 = s.0 in omega (arith, e)

sized-fails-past : (two_in 1).fails (5 ∷ 6 ∷ 7 ∷ []) (At SizeMismatch 2)
unfolding sized
sized-fails-past = inl (omega arith, (End, (omega arith, refl), refl))

sized-fails-left : (two_in 3).fails (5 ∷ 6 ∷ 7 ∷ 8 ∷ []) (At SizeMismatch 1)
unfolding sized
sized-fails-left = inr (inl (omega arith, (1, omega arith, (5 ∷ 6 ∷ [], 7 ∷ [], 5 ∷ 6 ∷ [], refl, refl, (refl, refl)), refl)))

sized-fails-ended : (two_in 4).fails (5 ∷ []) End
unfolding sized
sized-fails-ended = inr (inr (inl (omega arith, (omega arith, refl))))

sized-fails-cut : (two_in 4).fails (5 ∷ 6 ∷ []) (Past 2)
unfolding sized
sized-fails-cut = inr (inr (inr (omega arith, (0, (5 ∷ 6 ∷ [], [], 5 ∷ 6 ∷ [], refl, refl, (refl, refl)), refl))))

-- ---- a choice by the first byte

abbrev by_five : Bytes ℕ
by_five = choose (λ b. b == 5) byte (give 0)

chosen : by_five.read (5 ∷ 6 ∷ []) ≡ Ok (5, 6 ∷ [])
chosen = refl

otherwise : by_five.read (6 ∷ []) ≡ Ok (0, 6 ∷ [])
otherwise = refl

none-to-choose : by_five.read [] ≡ Err End
none-to-choose = refl

chosen-spelled : by_five.spells (5 ∷ []) 5
chosen-spelled = (refl, refl)

chosen-stops : by_five.stops (5 ∷ []) 5 (Some 6)
chosen-stops = (refl, refl)

none-to-choose-fails : by_five.fails [] End
none-to-choose-fails = refl

not-chosen : by_five.spells [] 0 → ⊥
not-chosen s = s

not-stopped : by_five.stops [] 0 None → ⊥
not-stopped s = s

five-does-not-fail : by_five.fails (5 ∷ []) End → ⊥
five-does-not-fail s = let e : true ≡ false = s.0 in cc

-- ---- counts, indices and marks

index-last : (index 3).read (2 ∷ []) ≡ Ok (2, [])
unfolding bytes_written_out
index-last = refl

index-count : (index 3).read (3 ∷ 9 ∷ []) ≡ Err (At BadIndex 2)
unfolding bytes_written_out
index-count = refl

-- the fault of what is spelled is at its first byte
index-place : (index 3).read (0x83 ∷ 0x00 ∷ []) ≡ Err (At BadIndex 2)
unfolding bytes_written_out
index-place = refl

some-one : some.read (1 ∷ []) ≡ Ok (1, [])
unfolding bytes_written_out
some-one = refl

some-none : some.read (0 ∷ []) ≡ Err (At EmptyType 1)
unfolding bytes_written_out
some-none = refl

flags-limit : (some_upto max_flags).read (32 ∷ []) ≡ Ok (32, [])
unfolding bytes_written_out
flags-limit = refl

flags-above : (some_upto max_flags).read (33 ∷ []) ≡ Err (At Limit 1)
unfolding bytes_written_out
flags-above = refl

flags-empty : (some_upto max_flags).read (0 ∷ []) ≡ Err (At EmptyType 1)
unfolding bytes_written_out
flags-empty = refl

cases-limit : (some_upto max_cases).read (0xa0 ∷ 0x8d ∷ 0x06 ∷ []) ≡ Ok (100000, [])
unfolding bytes_written_out
cases-limit = refl

cases-above : (some_upto max_cases).read (0xa1 ∷ 0x8d ∷ 0x06 ∷ []) ≡ Err (At Limit 3)
unfolding bytes_written_out
cases-above = refl

zero-mark : zero_byte.read (0 ∷ []) ≡ Ok (0, [])
zero-mark = refl

no-zero-mark : zero_byte.read (1 ∷ []) ≡ Err (At (UnknownOpcode 1) 1)
no-zero-mark = refl

zero-mark-spelled : zero_byte.spells (0 ∷ []) 0
zero-mark-spelled = ((refl, refl), λ all. refl)

zero-mark-fails : zero_byte.fails (1 ∷ 9 ∷ []) (At (UnknownOpcode 1) 2)
zero-mark-fails = inr (1 ∷ [], 9 ∷ [], 1, refl, (refl, refl), refl)

one-no-zero-mark : zero_byte.spells (1 ∷ []) 1 → ⊥
one-no-zero-mark s = let e = s.1 [] in cc

flag-one : flag_byte.read (1 ∷ []) ≡ Ok (1, [])
flag-one = refl

flag-two : flag_byte.read (2 ∷ []) ≡ Err (At (UnknownOpcode 2) 1)
flag-two = refl

-- ---- names

label-read : label.read (0x03 ∷ codes "a-b" ++ 9 ∷ []) ≡ Ok (codes "a-b", 9 ∷ [])
unfolding bytes_written_out
label-read = refl

-- at the first byte of the length
no-label : label.read (0x83 ∷ 0x00 ∷ codes "a--") ≡ Err (At BadName 5)
unfolding bytes_written_out
no-label = refl

empty-label : label.read (0x00 ∷ []) ≡ Err (At BadName 1)
unfolding bytes_written_out
empty-label = refl

label-cut : label.read (0x03 ∷ codes "a-") ≡ Err End
unfolding bytes_written_out
label-cut = refl

utf8-read : utf8.read (0x02 ∷ 0xc3 ∷ 0xa9 ∷ []) ≡ Ok (0xc3 ∷ 0xa9 ∷ [], [])
unfolding bytes_written_out
utf8-read = refl

no-utf8 : utf8.read (0x01 ∷ 0xc3 ∷ 0xa9 ∷ []) ≡ Err (At BadName 3)
unfolding bytes_written_out
no-utf8 = refl

extern-label : extern_name.read (0x00 ∷ 0x01 ∷ codes "f") ≡ Ok (codes "f", [])
unfolding bytes_written_out
extern-label = refl

extern-full-name : extern_name.read (0x00 ∷ 0x05 ∷ codes "a:b/c") ≡ Ok (codes "a:b/c", [])
unfolding bytes_written_out
extern-full-name = refl

no-extern-mark : extern_name.read (0x01 ∷ 0x01 ∷ codes "f") ≡ Err (At (UnknownOpcode 1) 3)
unfolding bytes_written_out
no-extern-mark = refl

no-extern-name : extern_name.read (0x00 ∷ 0x03 ∷ codes "a:b") ≡ Err (At BadName 4)
unfolding bytes_written_out
no-extern-name = refl

full-name : is_full_name (codes "wasi:io-x2/a-POLL") ≡ true
unfolding bytes_written_out
full-name = refl

-- a full name has a version exactly if what is after its @ is one
versioned-name : is_full_name (codes "a:b/c@0.2.0") ≡ is_version (codes "0.2.0")
unfolding bytes_written_out
versioned-name = refl

upper-namespace : is_full_name (codes "A:b/c") ≡ false
unfolding bytes_written_out
upper-namespace = refl

upper-package : is_full_name (codes "a:B/c") ≡ false
unfolding bytes_written_out
upper-package = refl

empty-version : is_full_name (codes "a:b/c@") ≡ false
unfolding bytes_written_out is_version
empty-version = refl

no-package : is_full_name (codes "b/c") ≡ false
unfolding bytes_written_out
no-package = refl

no-namespace : is_full_name (codes ":b/c") ≡ false
unfolding bytes_written_out
no-namespace = refl

bare-package : is_full_name (codes "a:b") ≡ false
unfolding bytes_written_out
bare-package = refl

two-slashes : is_full_name (codes "a:b/c/d") ≡ false
unfolding bytes_written_out
two-slashes = refl

extern-names : is_extern_name (codes "a-B") ≡ true
unfolding bytes_written_out
extern-names = refl

versioned-label : is_extern_name (codes "c@1.0.0") ≡ false
unfolding bytes_written_out
versioned-label = refl

cut-first : cut_at 47 (codes "a/b/c") ≡ Some (codes "a", codes "b/c")
cut-first = refl

cut-none : cut_at 47 (codes "ab") ≡ None
cut-none = refl

-- ---- first bytes of types

primitives : map primitive_of (0x7f ∷ 0x7e ∷ 0x7d ∷ 0x7c ∷ 0x7b ∷ 0x7a ∷ 0x79 ∷ 0x78 ∷ 0x77 ∷ 0x74 ∷ 0x73 ∷ [])
    ≡ map (λ p. Some p) (prim.Bool ∷ prim.S8 ∷ prim.U8 ∷ prim.S16 ∷ prim.U16 ∷ prim.S32 ∷ prim.U32 ∷ prim.S64 ∷ prim.U64 ∷ prim.Char ∷ prim.String ∷ [])
unfolding bytes_written_out
primitives = refl

-- f32, f64, a record, error-context, and a byte past seven bits
no-primitives : map primitive_of (0x76 ∷ 0x75 ∷ 0x72 ∷ 0x64 ∷ 0x80 ∷ []) ≡ replicate 5 None
unfolding bytes_written_out
no-primitives = refl

opcodes : map opcode_of (0x72 ∷ 0x71 ∷ 0x70 ∷ 0x6f ∷ 0x6e ∷ 0x6d ∷ 0x6b ∷ 0x6a ∷ 0x40 ∷ 0x41 ∷ 0x42 ∷ 0x7f ∷ 0x73 ∷ [])
    ≡ map (λ o. Some o) (op.Record ∷ op.Variant ∷ op.List ∷ op.Tuple ∷ op.Flags ∷ op.Enum ∷ op.Option ∷ op.Result ∷ op.Function ∷ op.Component ∷ op.Instance ∷ op.Primitive prim.Bool ∷ op.Primitive prim.String ∷ [])
unfolding bytes_written_out
opcodes = refl

no-opcodes : map opcode_of (0x76 ∷ 0x75 ∷ 0x6c ∷ 0x69 ∷ 0x68 ∷ 0x67 ∷ 0x66 ∷ 0x65 ∷ 0x43 ∷ 0x3f ∷ 0x00 ∷ []) ≡ replicate 11 None
unfolding bytes_written_out
no-opcodes = refl

-- ---- value types

valtype-primitive : (valtype 0).read (0x74 ∷ 9 ∷ []) ≡ Ok (valtypes.Primitive prim.Char, 9 ∷ [])
unfolding bytes_written_out
valtype-primitive = refl

valtype-index : (valtype 65).read (0xc0 ∷ 0x00 ∷ 9 ∷ []) ≡ Ok (valtypes.Index 64, 9 ∷ [])
unfolding bytes_written_out
valtype-index = refl

valtype-index-above : (valtype 64).read (0xc0 ∷ 0x00 ∷ []) ≡ Err (At BadIndex 2)
unfolding bytes_written_out
valtype-index-above = refl

valtype-63 : (valtype 64).read (0x3f ∷ []) ≡ Ok (valtypes.Index 63, [])
unfolding bytes_written_out
valtype-63 = refl

-- an index in one byte ends below 40
valtype-64 : (valtype 65).read (0x40 ∷ []) ≡ Err (At (UnknownOpcode 0x40) 1)
unfolding bytes_written_out
valtype-64 = refl

valtype-negative : (valtype 65).read (0xf9 ∷ 0x7f ∷ []) ≡ Err (At (UnknownOpcode 0xf9) 2)
unfolding bytes_written_out
valtype-negative = refl

valtype-f32 : (valtype 0).read (0x76 ∷ []) ≡ Err (At (Unsupported Float) 1)
unfolding bytes_written_out
valtype-f32 = refl

valtype-f64 : (valtype 0).read (0x75 ∷ []) ≡ Err (At (Unsupported Float) 1)
unfolding bytes_written_out
valtype-f64 = refl

-- a record is no value type, and neither is an own or a borrow
valtype-record : (valtype 0).read (0x72 ∷ []) ≡ Err (At (UnknownOpcode 0x72) 1)
unfolding bytes_written_out
valtype-record = refl

valtype-own : (valtype 0).read (0x69 ∷ []) ≡ Err (At (UnknownOpcode 0x69) 1)
unfolding bytes_written_out
valtype-own = refl

valtype-none : (valtype 0).read [] ≡ Err End
unfolding bytes_written_out
valtype-none = refl

no-payload : (optional_valtype 0).read (0x00 ∷ 9 ∷ []) ≡ Ok (None, 9 ∷ [])
unfolding bytes_written_out
no-payload = refl

payload : (optional_valtype 0).read (0x01 ∷ 0x7f ∷ 9 ∷ []) ≡ Ok (Some (valtypes.Primitive prim.Bool), 9 ∷ [])
unfolding bytes_written_out
payload = refl

payload-two : (optional_valtype 0).read (0x02 ∷ 0x7f ∷ []) ≡ Err (At (UnknownOpcode 2) 2)
unfolding bytes_written_out
payload-two = refl

-- ---- types: in a scope of 3 types and 2 instances, where all scopes have 5 type entries

abbrev here : Scope
here = record { types = 3; instances = 2; entries = 5 }

abbrev read_type : List ℕ → Result ((TypeEntry × ℕ) × List ℕ) Stuck
read_type bytes = (type 4 [] here).read bytes

-- a definition that takes one type entry, with nothing after it
abbrev is_read : TypeEntry → Result ((TypeEntry × ℕ) × List ℕ) Stuck
is_read d = Ok ((d, 6), [])

type-string : read_type (0x73 ∷ []) ≡ is_read (Define (Prim prim.String))
unfolding bytes_written_out
type-string = refl

type-record : read_type (0x72 ∷ 0x02 ∷ 0x01 ∷ codes "a" ++ (0x7d ∷ 0x01 ∷ codes "b" ++ 0x02 ∷ []))
    ≡ is_read (Define (Record (record { label = codes "a"; ty = valtypes.Primitive prim.U8 } ∷ record { label = codes "b"; ty = valtypes.Index 2 } ∷ [])))
unfolding bytes_written_out
type-record = refl

type-variant : read_type (0x71 ∷ 0x02 ∷ 0x01 ∷ codes "a" ++ (0x00 ∷ 0x00 ∷ 0x01 ∷ codes "b" ++ 0x01 ∷ 0x7e ∷ 0x00 ∷ []))
    ≡ is_read (Define (Variant (record { label = codes "a"; payload = None } ∷ record { label = codes "b"; payload = Some (valtypes.Primitive prim.S8) } ∷ [])))
unfolding bytes_written_out
type-variant = refl

type-list : read_type (0x70 ∷ 0x7c ∷ []) ≡ is_read (Define (ListOf (valtypes.Primitive prim.S16)))
unfolding bytes_written_out
type-list = refl

type-tuple : read_type (0x6f ∷ 0x02 ∷ 0x7b ∷ 0x00 ∷ []) ≡ is_read (Define (Tuple (valtypes.Primitive prim.U16 ∷ valtypes.Index 0 ∷ [])))
unfolding bytes_written_out
type-tuple = refl

type-flags : read_type (0x6e ∷ 0x02 ∷ 0x01 ∷ codes "a" ++ 0x01 ∷ codes "b") ≡ is_read (Define (FlagSet (codes "a" ∷ codes "b" ∷ [])))
unfolding bytes_written_out
type-flags = refl

type-enum : read_type (0x6d ∷ 0x02 ∷ 0x01 ∷ codes "a" ++ 0x01 ∷ codes "b") ≡ is_read (Define (Enumeration (codes "a" ∷ codes "b" ∷ [])))
unfolding bytes_written_out
type-enum = refl

type-option : read_type (0x6b ∷ 0x78 ∷ []) ≡ is_read (Define (OptionOf (valtypes.Primitive prim.S64)))
unfolding bytes_written_out
type-option = refl

-- the ok type first
type-result : read_type (0x6a ∷ 0x01 ∷ 0x77 ∷ 0x00 ∷ []) ≡ is_read (Define (ResultOf (Some (valtypes.Primitive prim.U64)) None))
unfolding bytes_written_out
type-result = refl

type-function : read_type (0x40 ∷ 0x01 ∷ 0x01 ∷ codes "x" ++ 0x7a ∷ 0x00 ∷ 0x01 ∷ [])
    ≡ is_read (Func (record { params = record { label = codes "x"; ty = valtypes.Primitive prim.S32 } ∷ []; outcome = Some (valtypes.Index 1) }))
unfolding bytes_written_out
type-function = refl

-- a function may have no parameter, and no result
type-action : read_type (0x40 ∷ 0x00 ∷ 0x01 ∷ 0x00 ∷ []) ≡ is_read (Func (record { params = []; outcome = None }))
unfolding bytes_written_out
type-action = refl

empty-record : read_type (0x72 ∷ 0x00 ∷ []) ≡ Err (At EmptyType 1)
unfolding bytes_written_out
empty-record = refl

empty-variant : read_type (0x71 ∷ 0x00 ∷ []) ≡ Err (At EmptyType 1)
unfolding bytes_written_out
empty-variant = refl

empty-tuple : read_type (0x6f ∷ 0x00 ∷ []) ≡ Err (At EmptyType 1)
unfolding bytes_written_out
empty-tuple = refl

empty-flags : read_type (0x6e ∷ 0x00 ∷ []) ≡ Err (At EmptyType 1)
unfolding bytes_written_out
empty-flags = refl

empty-enum : read_type (0x6d ∷ 0x00 ∷ []) ≡ Err (At EmptyType 1)
unfolding bytes_written_out
empty-enum = refl

-- the count of 4,294,967,295 fields is read, and then the input ends
long-record : read_type (0x72 ∷ 0xff ∷ 0xff ∷ 0xff ∷ 0xff ∷ 0x0f ∷ []) ≡ Err End
unfolding bytes_written_out
long-record = refl

most-cases : read_type (0x71 ∷ 0xa0 ∷ 0x8d ∷ 0x06 ∷ []) ≡ Err End
unfolding bytes_written_out
most-cases = refl

too-many-cases : read_type (0x71 ∷ 0xa1 ∷ 0x8d ∷ 0x06 ∷ []) ≡ Err (At Limit 3)
unfolding bytes_written_out
too-many-cases = refl

too-many-labels : read_type (0x6d ∷ 0xa1 ∷ 0x8d ∷ 0x06 ∷ []) ≡ Err (At Limit 3)
unfolding bytes_written_out
too-many-labels = refl

too-many-flags : read_type (0x6e ∷ 0x21 ∷ []) ≡ Err (At Limit 1)
unfolding bytes_written_out
too-many-flags = refl

-- a case ends with 00
case-refines : read_type (0x71 ∷ 0x01 ∷ 0x01 ∷ codes "a" ++ 0x00 ∷ 0x01 ∷ []) ≡ Err (At (UnknownOpcode 1) 1)
unfolding bytes_written_out
case-refines = refl

-- no result is 01 00
result-list : read_type (0x40 ∷ 0x00 ∷ 0x01 ∷ 0x01 ∷ []) ≡ Err (At (UnknownOpcode 1) 1)
unfolding bytes_written_out
result-list = refl

-- an index of its own type entry is none yet
record-of-itself : read_type (0x70 ∷ 0x03 ∷ []) ≡ Err (At BadIndex 1)
unfolding bytes_written_out
record-of-itself = refl

option-of-f64 : read_type (0x6b ∷ 0x75 ∷ []) ≡ Err (At (Unsupported Float) 1)
unfolding bytes_written_out
option-of-f64 = refl

result-of-three : read_type (0x6a ∷ 0x00 ∷ 0x03 ∷ []) ≡ Err (At (UnknownOpcode 3) 1)
unfolding bytes_written_out
result-of-three = refl

type-f32 : read_type (0x76 ∷ []) ≡ Err (At (Unsupported Float) 1)
unfolding bytes_written_out
type-f32 = refl

type-own : read_type (0x69 ∷ 0x00 ∷ []) ≡ Err (At (Unsupported Resource) 2)
unfolding bytes_written_out
type-own = refl

type-borrow : read_type (0x68 ∷ 0x00 ∷ []) ≡ Err (At (Unsupported Resource) 2)
unfolding bytes_written_out
type-borrow = refl

type-future : read_type (0x65 ∷ []) ≡ Err (At (UnknownOpcode 0x65) 1)
unfolding bytes_written_out
type-future = refl

-- entry 65,535 may begin, and entry 65,536 may not
last-entry : (type 4 [] (new_scope 65534)).read (0x7d ∷ []) ≡ Ok ((Define (Prim prim.U8), 65535), [])
unfolding bytes_written_out
last-entry = refl

no-entry : (type 4 [] (new_scope 65535)).read (0x7d ∷ []) ≡ Err (At Limit 1)
unfolding bytes_written_out
no-entry = refl

-- an unknown opcode comes before the limit
unknown-at-limit : (type 4 [] (new_scope 65535)).read (0x65 ∷ []) ≡ Err (At (UnknownOpcode 0x65) 1)
unfolding bytes_written_out
unknown-at-limit = refl

resource-at-limit : (type 0 [] (new_scope 65535)).read (0x69 ∷ []) ≡ Err (At (Unsupported Resource) 1)
unfolding bytes_written_out
resource-at-limit = refl

-- ---- scopes

-- at most four component and instance types nest
four-deep : read_type (0x42 ∷ 0x01 ∷ 0x01 ∷ 0x41 ∷ 0x01 ∷ 0x01 ∷ 0x42 ∷ 0x01 ∷ 0x01 ∷ 0x41 ∷ 0x00 ∷ [])
    ≡ Ok ((Instance (then (Entry (Component (then (Entry (Instance (then (Entry (Component none)) none))) none))) none), 9), [])
unfolding bytes_written_out
four-deep = refl

five-deep : read_type (0x42 ∷ 0x01 ∷ 0x01 ∷ 0x41 ∷ 0x01 ∷ 0x01 ∷ 0x42 ∷ 0x01 ∷ 0x01 ∷ 0x41 ∷ 0x01 ∷ 0x01 ∷ 0x42 ∷ 0x00 ∷ []) ≡ Err (At Limit 2)
unfolding bytes_written_out
five-deep = refl

-- what takes a type index is a type entry of all scopes together: a type, an alias, an export of a type
entries-of-all : read_type (0x42 ∷ 0x03 ∷ 0x01 ∷ 0x7d ∷ 0x02 ∷ 0x03 ∷ 0x02 ∷ 0x01 ∷ 0x02 ∷ 0x04 ∷ 0x00 ∷ 0x01 ∷ codes "t" ++ 0x03 ∷ 0x00 ∷ 0x01 ∷ [])
    ≡ Ok ((Instance (decls_of (Entry (Define (Prim prim.U8)) ∷ Alias (aliases.Outer 1 2) ∷ Export (codes "t") (descriptions.TypeEqual 1) ∷ [])), 9), [])
unfolding bytes_written_out
entries-of-all = refl

-- a component type may have imports, and an instance type none
component-imports : read_type (0x41 ∷ 0x02 ∷ 0x01 ∷ 0x40 ∷ 0x00 ∷ 0x01 ∷ 0x00 ∷ 0x03 ∷ 0x00 ∷ 0x01 ∷ codes "f" ++ 0x01 ∷ 0x00 ∷ [])
    ≡ Ok ((Component (decls_of (Entry (Func (record { params = []; outcome = None })) ∷ Import (codes "f") (descriptions.Function 0) ∷ [])), 7), [])
unfolding bytes_written_out
component-imports = refl

instance-imports : read_type (0x42 ∷ 0x02 ∷ 0x01 ∷ 0x40 ∷ 0x00 ∷ 0x01 ∷ 0x00 ∷ 0x03 ∷ 0x00 ∷ 0x01 ∷ codes "f" ++ 0x01 ∷ 0x00 ∷ []) ≡ Err (At (UnknownOpcode 3) 6)
unfolding bytes_written_out
instance-imports = refl

-- the types of a new scope are none of those around it
new-types : read_type (0x42 ∷ 0x01 ∷ 0x01 ∷ 0x70 ∷ 0x00 ∷ []) ≡ Err (At BadIndex 1)
unfolding bytes_written_out
new-types = refl

-- a scope of 2 types and 1 instance, in one of 7 types, which is in one of 4
abbrev inner : Scope
inner = record { types = 2; instances = 1; entries = 30 }

abbrev around : List ℕ
around = 4 ∷ 7 ∷ []

abbrev with_a_type : Scope
with_a_type = record { types = 3; instances = 1; entries = 31 }

abbrev with_an_instance : Scope
with_an_instance = record { types = 2; instances = 2; entries = 30 }

-- a declaration of a component type there
abbrev read_decl : List ℕ → Result ((Decl × Scope) × List ℕ) Stuck
read_decl bytes = (decl (type 2) true around inner).read bytes

-- one of an instance type
abbrev read_instance_decl : List ℕ → Result ((Decl × Scope) × List ℕ) Stuck
read_instance_decl bytes = (decl (type 2) false around inner).read bytes

type-declared : read_decl (0x01 ∷ 0x70 ∷ 0x01 ∷ []) ≡ Ok ((Entry (Define (ListOf (valtypes.Index 1))), with_a_type), [])
unfolding bytes_written_out
type-declared = refl

instance-alias : read_decl (0x02 ∷ 0x03 ∷ 0x00 ∷ 0x00 ∷ 0x01 ∷ codes "t") ≡ Ok ((Alias (aliases.InstanceExport 0 (codes "t")), with_a_type), [])
unfolding bytes_written_out
instance-alias = refl

own-alias : read_decl (0x02 ∷ 0x03 ∷ 0x02 ∷ 0x00 ∷ 0x01 ∷ []) ≡ Ok ((Alias (aliases.Outer 0 1), with_a_type), [])
unfolding bytes_written_out
own-alias = refl

outer-alias : read_decl (0x02 ∷ 0x03 ∷ 0x02 ∷ 0x01 ∷ 0x06 ∷ []) ≡ Ok ((Alias (aliases.Outer 1 6), with_a_type), [])
unfolding bytes_written_out
outer-alias = refl

outermost-alias : read_decl (0x02 ∷ 0x03 ∷ 0x02 ∷ 0x02 ∷ 0x03 ∷ []) ≡ Ok ((Alias (aliases.Outer 2 3), with_a_type), [])
unfolding bytes_written_out
outermost-alias = refl

-- instance 1 is not there
alias-of-no-instance : read_decl (0x02 ∷ 0x03 ∷ 0x00 ∷ 0x01 ∷ 0x01 ∷ codes "t") ≡ Err (At BadIndex 3)
unfolding bytes_written_out
alias-of-no-instance = refl

-- the export's name is a label
alias-of-full-name : read_decl (0x02 ∷ 0x03 ∷ 0x00 ∷ 0x00 ∷ 0x05 ∷ codes "a:b/c") ≡ Err (At BadName 6)
unfolding bytes_written_out
alias-of-full-name = refl

own-alias-above : read_decl (0x02 ∷ 0x03 ∷ 0x02 ∷ 0x00 ∷ 0x02 ∷ []) ≡ Err (At BadIndex 1)
unfolding bytes_written_out
own-alias-above = refl

outer-alias-above : read_decl (0x02 ∷ 0x03 ∷ 0x02 ∷ 0x01 ∷ 0x07 ∷ []) ≡ Err (At BadIndex 1)
unfolding bytes_written_out
outer-alias-above = refl

outermost-alias-above : read_decl (0x02 ∷ 0x03 ∷ 0x02 ∷ 0x02 ∷ 0x04 ∷ []) ≡ Err (At BadIndex 1)
unfolding bytes_written_out
outermost-alias-above = refl

-- two scopes are around, and not three
no-scope : read_decl (0x02 ∷ 0x03 ∷ 0x02 ∷ 0x03 ∷ 0x00 ∷ []) ≡ Err (At BadIndex 2)
unfolding bytes_written_out
no-scope = refl

-- an alias is of a type, and of an instance's export or an outer type
alias-of-function : read_decl (0x02 ∷ 0x01 ∷ 0x00 ∷ 0x00 ∷ 0x01 ∷ codes "t") ≡ Err (At (UnknownOpcode 1) 5)
unfolding bytes_written_out
alias-of-function = refl

alias-of-core-export : read_decl (0x02 ∷ 0x03 ∷ 0x01 ∷ 0x00 ∷ 0x01 ∷ codes "t") ≡ Err (At (UnknownOpcode 1) 4)
unfolding bytes_written_out
alias-of-core-export = refl

alias-at-limit : (alias_entry [] (record { types = 1; instances = 0; entries = 65535 })).read (0x03 ∷ 0x02 ∷ 0x00 ∷ 0x00 ∷ []) ≡ Err (At Limit 4)
unfolding bytes_written_out
alias-at-limit = refl

import-function : read_decl (0x03 ∷ 0x00 ∷ 0x01 ∷ codes "f" ++ 0x01 ∷ 0x01 ∷ []) ≡ Ok ((Import (codes "f") (descriptions.Function 1), inner), [])
unfolding bytes_written_out
import-function = refl

import-type : read_decl (0x03 ∷ 0x00 ∷ 0x01 ∷ codes "f" ++ 0x03 ∷ 0x00 ∷ 0x01 ∷ []) ≡ Ok ((Import (codes "f") (descriptions.TypeEqual 1), with_a_type), [])
unfolding bytes_written_out
import-type = refl

import-component : read_decl (0x03 ∷ 0x00 ∷ 0x01 ∷ codes "f" ++ 0x04 ∷ 0x01 ∷ []) ≡ Ok ((Import (codes "f") (descriptions.Component 1), inner), [])
unfolding bytes_written_out
import-component = refl

import-instance : read_decl (0x03 ∷ 0x00 ∷ 0x05 ∷ codes "a:b/c" ++ 0x05 ∷ 0x01 ∷ []) ≡ Ok ((Import (codes "a:b/c") (descriptions.Instance 1), with_an_instance), [])
unfolding bytes_written_out
import-instance = refl

export-function : read_instance_decl (0x04 ∷ 0x00 ∷ 0x01 ∷ codes "f" ++ 0x01 ∷ 0x01 ∷ []) ≡ Ok ((Export (codes "f") (descriptions.Function 1), inner), [])
unfolding bytes_written_out
export-function = refl

export-type : read_instance_decl (0x04 ∷ 0x00 ∷ 0x01 ∷ codes "f" ++ 0x03 ∷ 0x00 ∷ 0x01 ∷ []) ≡ Ok ((Export (codes "f") (descriptions.TypeEqual 1), with_a_type), [])
unfolding bytes_written_out
export-type = refl

export-component : read_instance_decl (0x04 ∷ 0x00 ∷ 0x01 ∷ codes "f" ++ 0x04 ∷ 0x01 ∷ []) ≡ Ok ((Export (codes "f") (descriptions.Component 1), inner), [])
unfolding bytes_written_out
export-component = refl

export-instance : read_instance_decl (0x04 ∷ 0x00 ∷ 0x01 ∷ codes "f" ++ 0x05 ∷ 0x01 ∷ []) ≡ Ok ((Export (codes "f") (descriptions.Instance 1), with_an_instance), [])
unfolding bytes_written_out
export-instance = refl

-- an instance type has no imports
import-in-instance : read_instance_decl (0x03 ∷ 0x00 ∷ 0x01 ∷ codes "f" ++ 0x01 ∷ 0x01 ∷ []) ≡ Err (At (UnknownOpcode 3) 6)
unfolding bytes_written_out
import-in-instance = refl

no-declaration : read_decl (0x05 ∷ []) ≡ Err (At (UnknownOpcode 5) 1)
unfolding bytes_written_out
no-declaration = refl

core-declaration : read_decl (0x00 ∷ []) ≡ Err (At (UnknownOpcode 0) 1)
unfolding bytes_written_out
core-declaration = refl

-- a function and an instance are described by an index of a type
function-above : read_decl (0x04 ∷ 0x00 ∷ 0x01 ∷ codes "f" ++ 0x01 ∷ 0x02 ∷ []) ≡ Err (At BadIndex 1)
unfolding bytes_written_out
function-above = refl

type-above : read_decl (0x04 ∷ 0x00 ∷ 0x01 ∷ codes "f" ++ 0x03 ∷ 0x00 ∷ 0x02 ∷ []) ≡ Err (At BadIndex 1)
unfolding bytes_written_out
type-above = refl

instance-above : read_decl (0x04 ∷ 0x00 ∷ 0x01 ∷ codes "f" ++ 0x05 ∷ 0x02 ∷ []) ≡ Err (At BadIndex 1)
unfolding bytes_written_out
instance-above = refl

-- a type is exported equal to another, and never as a resource
export-resource : read_decl (0x04 ∷ 0x00 ∷ 0x01 ∷ codes "f" ++ 0x03 ∷ 0x01 ∷ []) ≡ Err (At (UnknownOpcode 1) 1)
unfolding bytes_written_out
export-resource = refl

-- no core modules, and no values
export-module : read_decl (0x04 ∷ 0x00 ∷ 0x01 ∷ codes "f" ++ 0x00 ∷ 0x11 ∷ 0x01 ∷ []) ≡ Err (At (UnknownOpcode 0) 3)
unfolding bytes_written_out
export-module = refl

export-value : read_decl (0x04 ∷ 0x00 ∷ 0x01 ∷ codes "f" ++ 0x02 ∷ 0x01 ∷ []) ≡ Err (At (UnknownOpcode 2) 2)
unfolding bytes_written_out
export-value = refl

-- an export of a type takes a type entry, and one of a function doesn't
export-type-at-limit : (description (record { types = 1; instances = 0; entries = 65535 })).read (0x03 ∷ 0x00 ∷ 0x00 ∷ []) ≡ Err (At Limit 3)
unfolding bytes_written_out
export-type-at-limit = refl

export-function-at-limit : (description (record { types = 1; instances = 0; entries = 65535 })).read (0x01 ∷ 0x00 ∷ [])
    ≡ Ok ((descriptions.Function 0, record { types = 1; instances = 0; entries = 65535 }), [])
unfolding bytes_written_out
export-function-at-limit = refl

-- ---- a file: the type u8, exported as a

abbrev u8_section : List ℕ
u8_section = 0x07 ∷ 0x02 ∷ 0x01 ∷ 0x7d ∷ []

abbrev a_section : List ℕ
a_section = 0x0b ∷ 0x07 ∷ 0x01 ∷ 0x00 ∷ 0x01 ∷ 0x61 ∷ 0x03 ∷ 0x00 ∷ 0x00 ∷ []

-- the preamble and these bytes
abbrev a_file : List ℕ → List ℕ
a_file bytes = p1_mark ++ bytes

abbrev small : List ℕ
small = a_file (u8_section ++ a_section)

abbrev small_file : BinaryFile
small_file = record { types = Define (Prim prim.U8) ∷ []; exports = record { name = codes "a"; type = 0 } ∷ [] }

small-read : decoded small ≡ Ok small_file
unfolding bytes_written_out
small-read = refl

small-written : file_bytes small_file ≡ small
unfolding bytes_written_out
small-written = refl

-- two types, the second of which names the first, and two exports
two-read : decoded (a_file (0x07 ∷ 0x04 ∷ 0x02 ∷ 0x7d ∷ 0x70 ∷ 0x00 ∷ 0x0b ∷ 0x0d ∷ 0x02 ∷ 0x00 ∷ 0x01 ∷ codes "a" ++ 0x03 ∷ 0x00 ∷ 0x00 ∷ 0x00 ∷ 0x01 ∷ codes "b" ++ 0x03 ∷ 0x01 ∷ 0x00 ∷ []))
    ≡ Ok (record {
      types = Define (Prim prim.U8) ∷ Define (ListOf (valtypes.Index 0)) ∷ [];
      exports = record { name = codes "a"; type = 0 } ∷ record { name = codes "b"; type = 1 } ∷ [];
    })
unfolding bytes_written_out
two-read = refl

empty-read : decoded (a_file (0x07 ∷ 0x01 ∷ 0x00 ∷ 0x0b ∷ 0x01 ∷ 0x00 ∷ [])) ≡ Ok (record { types = []; exports = [] })
unfolding bytes_written_out
empty-read = refl

-- the file's scope is around a component type, and has the types before it
outer-of-file : decoded (a_file (0x07 ∷ 0x09 ∷ 0x02 ∷ 0x7d ∷ 0x41 ∷ 0x01 ∷ 0x02 ∷ 0x03 ∷ 0x02 ∷ 0x01 ∷ 0x00 ∷ a_section))
    ≡ Ok (record { types = Define (Prim prim.U8) ∷ Component (then (Alias (aliases.Outer 1 0)) none) ∷ []; exports = record { name = codes "a"; type = 0 } ∷ [] })
unfolding bytes_written_out
outer-of-file = refl

outer-of-itself : decoded (a_file (0x07 ∷ 0x09 ∷ 0x02 ∷ 0x7d ∷ 0x41 ∷ 0x01 ∷ 0x02 ∷ 0x03 ∷ 0x02 ∷ 0x01 ∷ 0x01 ∷ a_section)) ≡ Err (errors.At BadIndex 18)
unfolding bytes_written_out
outer-of-itself = refl

-- four component types in one another, and five
four-in-file : decoded (a_file (0x07 ∷ 0x0c ∷ 0x01 ∷ 0x41 ∷ 0x01 ∷ 0x01 ∷ 0x41 ∷ 0x01 ∷ 0x01 ∷ 0x41 ∷ 0x01 ∷ 0x01 ∷ 0x41 ∷ 0x00 ∷ a_section))
    ≡ Ok (record { types = Component (then (Entry (Component (then (Entry (Component (then (Entry (Component none)) none))) none))) none) ∷ []; exports = record { name = codes "a"; type = 0 } ∷ [] })
unfolding bytes_written_out
four-in-file = refl

five-in-file : decoded (a_file (0x07 ∷ 0x0f ∷ 0x01 ∷ 0x41 ∷ 0x01 ∷ 0x01 ∷ 0x41 ∷ 0x01 ∷ 0x01 ∷ 0x41 ∷ 0x01 ∷ 0x01 ∷ 0x41 ∷ 0x01 ∷ 0x01 ∷ 0x41 ∷ 0x00 ∷ a_section)) ≡ Err (errors.At Limit 23)
unfolding bytes_written_out
five-in-file = refl

-- custom sections are dropped, before, between and after the two
abbrev x_section : List ℕ
x_section = 0x00 ∷ 0x02 ∷ 0x01 ∷ 0x78 ∷ []

-- with a name of two bytes and two more bytes
abbrev e_section : List ℕ
e_section = 0x00 ∷ 0x05 ∷ 0x02 ∷ 0xc3 ∷ 0xa9 ∷ 0x07 ∷ 0x0b ∷ []

customs-dropped : decoded (a_file (x_section ++ (e_section ++ (u8_section ++ (e_section ++ (a_section ++ (e_section ++ x_section))))))) ≡ Ok small_file
unfolding bytes_written_out
customs-dropped = refl

-- a size and a count in more bytes than they need
longer-numbers : decoded (a_file (0x07 ∷ 0x83 ∷ 0x00 ∷ 0x81 ∷ 0x00 ∷ 0x7d ∷ a_section)) ≡ Ok small_file
unfolding bytes_written_out
longer-numbers = refl

custom-not-utf8 : decoded (a_file (0x00 ∷ 0x02 ∷ 0x01 ∷ 0xff ∷ u8_section ++ a_section)) ≡ Err (errors.At BadName 10)
unfolding bytes_written_out
custom-not-utf8 = refl

-- the name goes on past its section
custom-past : decoded (a_file (0x00 ∷ 0x01 ∷ 0x02 ∷ 0x78 ∷ 0x78 ∷ u8_section ++ a_section)) ≡ Err (errors.At SizeMismatch 11)
unfolding bytes_written_out
custom-past = refl

custom-cut : decoded (a_file (0x00 ∷ 0x05 ∷ 0x01 ∷ 0x78 ∷ [])) ≡ Err (errors.At Truncated 12)
unfolding bytes_written_out
custom-cut = refl

-- fewer custom sections than this number
customs-below : (section 7 2).read (x_section ++ u8_section) ≡ Ok (2, 0x01 ∷ 0x7d ∷ [])
unfolding bytes_written_out
customs-below = refl

customs-above : (section 7 1).read (x_section ++ u8_section) ≡ Err End
unfolding bytes_written_out
customs-above = refl

first-byte : decoded (0x01 ∷ 0x61 ∷ 0x73 ∷ 0x6d ∷ 0x0d ∷ 0x00 ∷ 0x01 ∷ 0x00 ∷ u8_section ++ a_section) ≡ Err (errors.At NotComponent 0)
unfolding bytes_written_out
first-byte = refl

other-version : decoded (0x00 ∷ 0x61 ∷ 0x73 ∷ 0x6d ∷ 0x0e ∷ 0x00 ∷ 0x01 ∷ 0x00 ∷ u8_section ++ a_section) ≡ Err (errors.At NotComponent 4)
unfolding bytes_written_out
other-version = refl

-- a core module
other-layer : decoded (0x00 ∷ 0x61 ∷ 0x73 ∷ 0x6d ∷ 0x0d ∷ 0x00 ∷ 0x00 ∷ 0x00 ∷ []) ≡ Err (errors.At NotComponent 6)
unfolding bytes_written_out
other-layer = refl

no-bytes : decoded [] ≡ Err (errors.At Truncated 0)
unfolding bytes_written_out
no-bytes = refl

export-cut : decoded (a_file (u8_section ++ (0x0b ∷ 0x07 ∷ 0x01 ∷ 0x00 ∷ 0x01 ∷ 0x61 ∷ 0x03 ∷ 0x00 ∷ []))) ≡ Err (errors.At Truncated 20)
unfolding bytes_written_out
export-cut = refl

import-section : decoded (a_file (0x0a ∷ 0x01 ∷ 0x00 ∷ u8_section ++ a_section)) ≡ Err (errors.At (BadSection 10) 8)
unfolding bytes_written_out
import-section = refl

exports-first : decoded (a_file (a_section ++ u8_section)) ≡ Err (errors.At (BadSection 11) 8)
unfolding bytes_written_out
exports-first = refl

two-type-sections : decoded (a_file (u8_section ++ (u8_section ++ a_section))) ≡ Err (errors.At (BadSection 7) 12)
unfolding bytes_written_out
two-type-sections = refl

types-past : decoded (a_file (0x07 ∷ 0x01 ∷ 0x01 ∷ 0x7d ∷ a_section)) ≡ Err (errors.At SizeMismatch 11)
unfolding bytes_written_out
types-past = refl

types-left : decoded (a_file (0x07 ∷ 0x03 ∷ 0x01 ∷ 0x7d ∷ a_section)) ≡ Err (errors.At SizeMismatch 13)
unfolding bytes_written_out
types-left = refl

-- the section's end is past the input: the fault is there
types-past-input : decoded (a_file (0x07 ∷ 0x20 ∷ 0x01 ∷ 0x7d ∷ a_section)) ≡ Err (errors.At SizeMismatch 42)
unfolding bytes_written_out
types-past-input = refl

exports-left : decoded (a_file (u8_section ++ (0x0b ∷ 0x08 ∷ 0x01 ∷ 0x00 ∷ 0x01 ∷ 0x61 ∷ 0x03 ∷ 0x00 ∷ 0x00 ∷ []))) ≡ Err (errors.At SizeMismatch 22)
unfolding bytes_written_out
exports-left = refl

types-after : decoded (small ++ (0x07 ∷ [])) ≡ Err (errors.At Trailing 21)
unfolding bytes_written_out
types-after = refl

exports-after : decoded (small ++ (x_section ++ (0x0b ∷ []))) ≡ Err (errors.At Trailing 25)
unfolding bytes_written_out
exports-after = refl

other-after : decoded (small ++ (0x08 ∷ [])) ≡ Err (errors.At (BadSection 8) 21)
unfolding bytes_written_out
other-after = refl

custom-after-past : decoded (small ++ (0x00 ∷ 0x01 ∷ 0x02 ∷ [])) ≡ Err (errors.At SizeMismatch 24)
unfolding bytes_written_out
custom-after-past = refl

-- the exports of the file are types
export-of-function : decoded (a_file (u8_section ++ (0x0b ∷ 0x07 ∷ 0x01 ∷ 0x00 ∷ 0x01 ∷ 0x61 ∷ 0x01 ∷ 0x00 ∷ 0x00 ∷ []))) ≡ Err (errors.At (UnknownOpcode 1) 18)
unfolding bytes_written_out
export-of-function = refl

export-of-no-type : decoded (a_file (u8_section ++ (0x0b ∷ 0x07 ∷ 0x01 ∷ 0x00 ∷ 0x01 ∷ 0x61 ∷ 0x03 ∷ 0x01 ∷ 0x00 ∷ []))) ≡ Err (errors.At BadIndex 19)
unfolding bytes_written_out
export-of-no-type = refl

export-ascribed : decoded (a_file (u8_section ++ (0x0b ∷ 0x07 ∷ 0x01 ∷ 0x00 ∷ 0x01 ∷ 0x61 ∷ 0x03 ∷ 0x00 ∷ 0x01 ∷ []))) ≡ Err (errors.At (UnknownOpcode 1) 20)
unfolding bytes_written_out
export-ascribed = refl

export-unnamed : decoded (a_file (u8_section ++ (0x0b ∷ 0x07 ∷ 0x01 ∷ 0x00 ∷ 0x01 ∷ 0x2d ∷ 0x03 ∷ 0x00 ∷ 0x00 ∷ []))) ≡ Err (errors.At BadName 16)
unfolding bytes_written_out
export-unnamed = refl

-- a byte in a section is told from the front of the input
float-in-file : decoded (a_file (0x07 ∷ 0x03 ∷ 0x01 ∷ 0x70 ∷ 0x76 ∷ a_section)) ≡ Err (errors.At (Unsupported Float) 12)
unfolding bytes_written_out
float-in-file = refl

overlong-in-file : decoded (a_file (0x07 ∷ 0x80 ∷ 0x80 ∷ 0x80 ∷ 0x80 ∷ 0x10 ∷ [])) ≡ Err (errors.At Overlong 9)
unfolding bytes_written_out
overlong-in-file = refl

-- this is tested first
too-long : (bytes : List ℕ) → nat_lt 1048576 (length bytes) ≡ true → decoded bytes ≡ Err (errors.At Limit 1048576)
unfolding decoded
too-long bytes e = rw e refl

longest : nat_lt max_length 1048576 ≡ false
longest = refl

small-decodes : Decodes (λ f. f) (Ok small_file) small
small-decodes = small-read

small-no-fault : Decodes (λ f. f) (Err (errors.At Truncated 21)) small → ⊥
small-no-fault h = let e : Ok small_file ≡ Err (errors.At Truncated 21) = sym small-read ∙ h in cc

small-no-reader : Decodes (λ f. f) (Err (errors.Read 21)) small → ⊥
small-no-reader h = h

-- ---- what is written: each number in its shortest spelling

u8-written : type_bytes (Define (Prim prim.U8)) ≡ 0x7d ∷ []
unfolding bytes_written_out
u8-written = refl

record-written : type_bytes (Define (Record (record { label = codes "ab"; ty = valtypes.Index 2 } ∷ []))) ≡ 0x72 ∷ 0x01 ∷ 0x02 ∷ codes "ab" ++ 0x02 ∷ []
unfolding bytes_written_out
record-written = refl

variant-written : type_bytes (Define (Variant (record { label = codes "a"; payload = None } ∷ record { label = codes "b"; payload = Some (valtypes.Primitive prim.S8) } ∷ [])))
    ≡ 0x71 ∷ 0x02 ∷ 0x01 ∷ codes "a" ++ (0x00 ∷ 0x00 ∷ 0x01 ∷ codes "b" ++ 0x01 ∷ 0x7e ∷ 0x00 ∷ [])
unfolding bytes_written_out
variant-written = refl

index-written : map type_bytes (Define (ListOf (valtypes.Index 63)) ∷ Define (OptionOf (valtypes.Index 64)) ∷ []) ≡ (0x70 ∷ 0x3f ∷ []) ∷ (0x6b ∷ 0xc0 ∷ 0x00 ∷ []) ∷ []
unfolding bytes_written_out
index-written = refl

index-not-negative : type_bytes (Define (OptionOf (valtypes.Index 64))) ≡ 0x6b ∷ 0x40 ∷ [] → ⊥
unfolding bytes_written_out
index-not-negative e = let same : 3 ≡ 2 = ap (λ bytes. length bytes) e in omega (arith, same)

tuple-written : type_bytes (Define (Tuple (valtypes.Primitive prim.U16 ∷ valtypes.Index 0 ∷ []))) ≡ 0x6f ∷ 0x02 ∷ 0x7b ∷ 0x00 ∷ []
unfolding bytes_written_out
tuple-written = refl

labels-written : map type_bytes (Define (FlagSet (codes "a" ∷ codes "b" ∷ [])) ∷ Define (Enumeration (codes "a" ∷ [])) ∷ [])
    ≡ (0x6e ∷ 0x02 ∷ 0x01 ∷ codes "a" ++ 0x01 ∷ codes "b") ∷ (0x6d ∷ 0x01 ∷ 0x01 ∷ codes "a") ∷ []
unfolding bytes_written_out
labels-written = refl

result-written : type_bytes (Define (ResultOf (Some (valtypes.Primitive prim.U64)) None)) ≡ 0x6a ∷ 0x01 ∷ 0x77 ∷ 0x00 ∷ []
unfolding bytes_written_out
result-written = refl

action-written : type_bytes (Func (record { params = []; outcome = None })) ≡ 0x40 ∷ 0x00 ∷ 0x01 ∷ 0x00 ∷ []
unfolding bytes_written_out
action-written = refl

decls-written : map decl_bytes (Alias (aliases.InstanceExport 1 (codes "t")) ∷ Alias (aliases.Outer 1 200) ∷ Import (codes "f") (descriptions.Function 2) ∷ Export (codes "t") (descriptions.TypeEqual 3) ∷ Export (codes "w") (descriptions.Component 4) ∷ [])
    ≡ (0x02 ∷ 0x03 ∷ 0x00 ∷ 0x01 ∷ 0x01 ∷ codes "t")
    ∷ (0x02 ∷ 0x03 ∷ 0x02 ∷ 0x01 ∷ 0xc8 ∷ 0x01 ∷ [])
    ∷ (0x03 ∷ 0x00 ∷ 0x01 ∷ codes "f" ++ 0x01 ∷ 0x02 ∷ [])
    ∷ (0x04 ∷ 0x00 ∷ 0x01 ∷ codes "t" ++ 0x03 ∷ 0x00 ∷ 0x03 ∷ [])
    ∷ (0x04 ∷ 0x00 ∷ 0x01 ∷ codes "w" ++ 0x04 ∷ 0x04 ∷ [])
    ∷ []
unfolding bytes_written_out
decls-written = refl

-- ---- what the values of the crate's types stand for

types-viewed : map type_view (t.Defined (v.Primitive prim.Bool) ∷ t.Defined (v.List (valtypes.Index 1)) ∷ t.Defined (v.Option (valtypes.Index 2)) ∷ t.Defined (v.Result None (Some (valtypes.Index 3))) ∷ [])
    ≡ Define (Prim prim.Bool) ∷ Define (ListOf (valtypes.Index 1)) ∷ Define (OptionOf (valtypes.Index 2)) ∷ Define (ResultOf None (Some (valtypes.Index 3))) ∷ []
unfolding type_view
types-viewed = refl

record-viewed : (fs : Vec RawField) → type_view (t.Defined (v.Record fs)) ≡ Define (Record fs.items)
unfolding type_view
record-viewed fs = refl

variant-viewed : (cs : Vec RawCase) → type_view (t.Defined (v.Variant cs)) ≡ Define (Variant cs.items)
unfolding type_view
variant-viewed cs = refl

tuple-viewed : (es : Vec RawValType) → type_view (t.Defined (v.Tuple es)) ≡ Define (Tuple es.items)
unfolding type_view
tuple-viewed es = refl

labels-viewed : (ls : Vec Label) → (type_view (t.Defined (v.Flags ls)) ≡ Define (FlagSet ls.items)) × (type_view (t.Defined (v.Enum ls)) ≡ Define (Enumeration ls.items))
unfolding type_view
labels-viewed ls = (refl, refl)

error-no-ok : (x : RawValType) → type_view (t.Defined (v.Result None (Some x))) ≡ Define (ResultOf (Some x) None) → ⊥
unfolding type_view
error-no-ok x e = cc

function-viewed : (fs : Vec RawField) → type_view (t.Function (record { params = fs; result = Some (valtypes.Index 3) })) ≡ Func (record { params = fs.items; outcome = Some (valtypes.Index 3) })
unfolding type_view
function-viewed fs = refl

-- an instance type of a type, an alias and an export
abbrev some_decls : List RawDecl
some_decls = d.«Type» (t.Defined (v.Primitive prim.Bool)) ∷ d.Alias (aliases.Outer 1 2) ∷ d.Export (ext.Label (codes "f")) (descriptions.TypeEqual 0) ∷ []

abbrev viewed_decls : Decls
viewed_decls = then (Entry (Define (Prim prim.Bool))) (then (Alias (aliases.Outer 1 2)) (then (Export (codes "f") (descriptions.TypeEqual 0)) none))

instance-viewed : (ds : Vec RawDecl) → ds.items ≡ some_decls → type_view (t.Instance ds) ≡ Instance viewed_decls
unfolding type_view
instance-viewed ds is = view-Instance ds ∙ ap (λ (xs : List RawDecl). Instance (decls_of (map decl_view xs))) is

component-viewed : (ds : Vec RawDecl) → ds.items ≡ d.Import (ext.Label (codes "f")) (descriptions.Function 0) ∷ [] → type_view (t.Component ds) ≡ Component (then (Import (codes "f") (descriptions.Function 0)) none)
unfolding type_view
component-viewed ds is = view-Component ds ∙ ap (λ (xs : List RawDecl). Component (decls_of (map decl_view xs))) is

component-no-instance : (ds : Vec RawDecl) (all : Decls) → type_view (t.Component ds) ≡ Instance all → ⊥
component-no-instance ds all e = let is = sym (view-Component ds) ∙ e in cc

name-viewed : (n : Box FullName Global) → name_parts_of n.value ≡ record { namespace = codes "a"; package_name = codes "b"; name = codes "c"; version = Some (codes "1.0.0") } → name_view (ext.FullName n) ≡ codes "a:b/c@1.0.0"
name-viewed n is = ap full_name_text is

file-viewed : (types : Vec RawType) (exports : Vec RawExport) → types.items ≡ t.Defined (v.Primitive prim.U8) ∷ [] → exports.items ≡ record { name = ext.Label (codes "a"); ty = 0 } ∷ [] → parts_file types exports ≡ small_file
unfolding type_view
file-viewed types exports is has = rw (is, has) refl
