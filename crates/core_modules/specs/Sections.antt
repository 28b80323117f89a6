-- The core specification, "Binary Format": the sections of types, imports, functions and exports, and custom sections.
use Rattle.std.specs.Prelude.{ℕ, zero, suc, ◌%◌, ◌==◌, ◌||◌, ◌&&◌, List, [], ◌∷◌, ◌++◌, length, drop, Option, Some, None, is_some, Result, Ok, Err, slice_get, nat_le, nat_lt, if◌then◌else◌}
use Rattle.std.specs.List.{starts_with}
use Rattle.atoms.specs.Production.{after, give, never, ◌>>=◌, when, by_option}
use Rattle.component_structure.specs.declared.error.Fault.{Fault}
use Rattle.component_structure.specs.declared.error.Fault.TheVariants.{NotModule, Overlong, UnknownByte, SectionOrder, BadIndex, NameTwice, NotFunction}
use Rattle.component_structure.specs.declared.error.DecodeError.{DecodeError}
use Rattle.component_structure.specs.declared.error.DecodeError.TheVariants as errors
use Rattle.component_structure.specs.Bytes.{Bytes, judged, here, granted, byte, u32, sized, name, front_of, to_end, repeat, while_left}
use Rattle.core_modules.specs.declared.types.CoreType.{CoreType}
use Rattle.core_modules.specs.declared.types.CoreType.TheVariants as core
use Rattle.core_modules.specs.declared.module.Item.{Item}
use Rattle.core_modules.specs.declared.module.Item.TheVariants as items
use Rattle.core_modules.specs.declared.sections.ModuleReader.{ModuleReader}
use Rattle.core_modules.specs.Module.{Module, exported_as, module_view, no_module, with_type, with_import, with_function, with_export, with_custom}

-- what was read of a module, and the rank of its last section but custom ones
pub record ModuleRead : Type 0 where
  pub module_ : Module
  pub passed : ℕ

-- what was read of a module in the code
abbrev pub reader_view : ModuleReader → ModuleRead
reader_view r = record { module_ = module_view r.read; passed = r.passed }

-- ---- numbers that are not needed

-- what is left of a number that began at this offset: at most n bytes, of which all but the last are 128 and above
unfoldable pub groups : ℕ → ℕ → ℕ → Bytes ℕ
groups zero place end = never (λ bytes. errors.At Overlong place)
groups (suc n) place end = do
  b ← byte end
  when (nat_lt b 128) (give 0) (groups n place end)

-- a number of at most ten bytes, as those of 64 bits are, whatever its value is
abbrev pub long_number : ℕ → Bytes ℕ
long_number end = do
  place ← here end
  groups 10 place end

-- ---- types

-- the type of values that a byte is; none for a reference whose heap type stands behind
unfoldable pub type_of : ℕ → Result (Option CoreType) Fault
type_of b =
    if b == 0x7f then Ok (Some core.I32) else (if b == 0x7e then Ok (Some core.I64) else (if b == 0x7d then Ok (Some core.F32)
    else (if b == 0x7c then Ok (Some core.F64) else (if b == 0x7b then Ok (Some core.V128)
    else (if nat_le 0x69 b && nat_le b 0x74 then Ok (Some core.Reference)
    else (if b == 0x63 || b == 0x64 then Ok None else Err (UnknownByte b)))))))

-- a heap type
abbrev pub heap_type : ℕ → Bytes CoreType
heap_type end = do
  n ← long_number end
  give core.Reference

-- `valtype` of the core specification
unfoldable pub core_type : ℕ → Bytes CoreType
core_type end = do
  t ← judged end (byte end) type_of
  by_option t (heap_type end) give

-- one more type of a list
unfoldable pub next_type : ℕ → List CoreType → Bytes (List CoreType)
next_type end before = do
  t ← core_type end
  give (before ++ t ∷ [])

-- `resulttype` of the core specification: types of values
unfoldable pub core_types : ℕ → Bytes (List CoreType)
core_types end = do
  n ← u32 end
  repeat n (next_type end) []

-- what begins the type of a function
unfoldable pub function_mark : ℕ → Result ℕ Fault
function_mark b =
    if b == 0x60 then Ok 0 else (if b == 0x4e || (b == 0x4f || (b == 0x50 || (b == 0x5e || b == 0x5f))) then Err NotFunction
    else Err (UnknownByte b))

-- `functype` of the core specification, which is one more type of the module
unfoldable pub function_type : ℕ → ModuleRead → Bytes ModuleRead
function_type end s = do
  mark ← judged end (byte end) function_mark
  params ← core_types end
  results ← core_types end
  give (record s { module_ = with_type s.module_ (record { params = params; results = results }) })

-- ---- imports and functions

-- the flags of limits
abbrev pub flags_of : ℕ → Result ℕ Fault
flags_of b = if nat_lt 15 b then Err (UnknownByte b) else Ok b

-- `limits` of the core specification, with the size of pages (flag 8) of newer modules
unfoldable pub limits : ℕ → Bytes ℕ
limits end = do
  flags ← judged end (byte end) flags_of
  least ← long_number end
  most ← when (flags % 2 == 1) (long_number end) (give 0)
  when (nat_le 8 flags) (long_number end) (give 0)

-- the index of a function's type
abbrev pub type_index : ℕ → Module → Bytes ℕ
type_index end m = judged end (u32 end) (λ i. if nat_lt i (length m.types) then Ok i else Err BadIndex)

-- a function of the type at an index, which takes the next index
unfoldable pub function : ℕ → ModuleRead → Bytes (Item × ModuleRead)
function end s = do
  t ← type_index end s.module_
  give (items.Function t, record s { module_ = with_function s.module_ t })

-- a table
abbrev pub table : ℕ → ModuleRead → Bytes (Item × ModuleRead)
table end s = do
  t ← core_type end
  l ← limits end
  give (items.Table, s)

-- a memory
abbrev pub memory : ℕ → ModuleRead → Bytes (Item × ModuleRead)
memory end s = do
  l ← limits end
  give (items.Memory, s)

-- a global: its type, and whether it changes
abbrev pub global : ℕ → ModuleRead → Bytes (Item × ModuleRead)
global end s = do
  t ← core_type end
  b ← byte end
  give (items.Global, s)

-- a tag
abbrev pub tag : ℕ → ModuleRead → Bytes (Item × ModuleRead)
tag end s = do
  b ← byte end
  n ← u32 end
  give (items.Tag, s)

-- `importdesc` of the core specification
unfoldable pub imported : ℕ → ModuleRead → Bytes (Item × ModuleRead)
imported end s = do
  place ← here end
  sort ← byte end
  when (sort == 0) (function end s) (when (sort == 1) (table end s) (when (sort == 2) (memory end s) (when (sort == 3) (global end s)
      (when (sort == 4) (tag end s) (never (λ bytes. errors.At (UnknownByte sort) place))))))

-- `import` of the core specification: two names, and what is imported
unfoldable pub import_ : ℕ → ModuleRead → Bytes ModuleRead
import_ end s = do
  from ← name end
  n ← name end
  x ← imported end s
  give (record x.1 { module_ = with_import x.1.module_ (record { from = from; name = n; item = x.0 }) })

-- a function of the section of functions
unfoldable pub own_function : ℕ → ModuleRead → Bytes ModuleRead
own_function end s = do
  x ← function end s
  give x.1

-- ---- exports

-- a function that is exported, by the types of functions
abbrev pub exported_function : Option ℕ → Result Item Fault
exported_function None = Err BadIndex
exported_function (Some t) = Ok (items.Function t)

-- what an export of this sort and index is; indices of what is no function are not followed
unfoldable pub exported_of : Module → ℕ → ℕ → Result Item Fault
exported_of m sort index =
    if sort == 0 then exported_function (slice_get m.functions index) else (if sort == 1 then Ok items.Table else (if sort == 2 then Ok items.Memory
    else (if sort == 3 then Ok items.Global else (if sort == 4 then Ok items.Tag else Err (UnknownByte sort)))))

-- a fault at this offset
abbrev pub placed : {X : Type 0} → ℕ → Result X Fault → Result X DecodeError
placed place (Ok x) = Ok x
placed place (Err fault) = Err (errors.At fault place)

-- `exportdesc` of the core specification
unfoldable pub exported : ℕ → Module → Bytes Item
exported end m = do
  place ← here end
  sort ← byte end
  index ← u32 end
  granted (placed place (exported_of m sort index))

-- what one more export at this offset makes of the module, unless it has one of this name
abbrev pub export_added : ℕ → ModuleRead → List ℕ → Item → Result ModuleRead DecodeError
export_added place s n item = if is_some (exported_as s.module_ n) then Err (errors.At NameTwice place) else Ok (record s { module_ = with_export s.module_ n item })

-- `export` of the core specification
unfoldable pub export : ℕ → ModuleRead → Bytes ModuleRead
export end s = do
  place ← here end
  n ← name end
  item ← exported end s.module_
  granted (export_added place s n item)

-- ---- sections

-- the section's rank in the order of the core specification, from 1 on; a custom section has none
unfoldable pub rank_of : ℕ → Option ℕ
rank_of id =
    if id == 1 then Some 1 else (if id == 2 then Some 2 else (if id == 3 then Some 3 else (if id == 4 then Some 4 else (if id == 5 then Some 5
    else (if id == 13 then Some 6 else (if id == 6 then Some 7 else (if id == 7 then Some 8 else (if id == 8 then Some 9 else (if id == 9 then Some 10
    else (if id == 12 then Some 11 else (if id == 10 then Some 12 else (if id == 11 then Some 13 else None))))))))))))

-- a section of this rank, which comes behind all that were read
abbrev pub ranked : ℕ → ℕ → ModuleRead → Option ℕ → Result ModuleRead DecodeError
ranked place id s None = Err (errors.At (UnknownByte id) place)
ranked place id s (Some rank) = if nat_le rank s.passed then Err (errors.At SectionOrder place) else Ok (record s { passed = rank })

-- so many of these
abbrev pub counted : ℕ → (ModuleRead → Bytes ModuleRead) → ModuleRead → Bytes ModuleRead
counted end p s = do
  n ← u32 end
  repeat n p s

-- the content of a section of this number; of most nothing is read
unfoldable pub known_content : ℕ → ℕ → ModuleRead → List ℕ → Result ModuleRead DecodeError
known_content id end s content =
    if id == 1 then front_of (to_end end (counted end (function_type end) s)) content
    else (if id == 2 then front_of (to_end end (counted end (import_ end) s)) content
    else (if id == 3 then front_of (to_end end (counted end (own_function end) s)) content
    else (if id == 7 then front_of (to_end end (counted end (export end) s)) content
    else Ok s)))

-- the content of a custom section: a name, and what stands behind it
abbrev pub custom_content : ℕ → ModuleRead → List ℕ → Result ModuleRead DecodeError
custom_content end s content = after ((name end).read content) (λ x. Ok (record s { module_ = with_custom s.module_ (record { name = x.0; content = x.1 }) }))

-- the content of a section of this number at this offset
unfoldable pub section_content : ℕ → ℕ → ℕ → ModuleRead → List ℕ → Result ModuleRead DecodeError
section_content place id end s content =
    if id == 0 then custom_content end s content else after (ranked place id s (rank_of id)) (λ s. known_content id end s content)

-- a section: its number, its size, and its content
unfoldable pub section : ℕ → ModuleRead → Bytes ModuleRead
section end s = do
  place ← here end
  id ← byte end
  content ← sized end
  within ← here end
  granted (section_content place id within s content)

-- a module of which nothing was read
abbrev pub nothing_read : ModuleRead
nothing_read = record { module_ = no_module; passed = 0 }

-- the magic number and the version of the core specification
abbrev pub preamble : List ℕ
preamble = 0x00 ∷ 0x61 ∷ 0x73 ∷ 0x6d ∷ 0x01 ∷ 0x00 ∷ 0x00 ∷ 0x00 ∷ []

-- what is read of a module's sections
abbrev pub sections : ℕ → List ℕ → Result (ModuleRead × List ℕ) DecodeError
sections end bytes = while_left (section end) nothing_read bytes

-- what a module declares
unfoldable pub declared_by : List ℕ → Result Module DecodeError
declared_by bytes =
    if starts_with (λ a b. a == b) bytes preamble then after (sections (length bytes) (drop 8 bytes)) (λ x. Ok x.0.module_)
    else Err (errors.At NotModule 0)
