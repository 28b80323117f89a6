-- The keywords of WIT texts.
use Rattle.std.specs.Prelude.{ℕ, ◌+◌, ◌*◌, ◌%◌, ◌==◌, length, List, [], ◌∷◌, Option, Some, None, if◌then◌else◌, codes}
use Rattle.std.specs.Str.{bytes_eq}
use Rattle.wit_tokens.specs.declared.token.Keyword.{Keyword}
use Rattle.wit_tokens.specs.declared.token.Keyword.TheVariants as kw

-- the word of a keyword
abbrev pub spelling : Keyword → List ℕ
spelling kw.As = codes "as"
spelling kw.Async = codes "async"
spelling kw.Bool = codes "bool"
spelling kw.Borrow = codes "borrow"
spelling kw.Char = codes "char"
spelling kw.Constructor = codes "constructor"
spelling kw.Enum = codes "enum"
spelling kw.ErrorContext = codes "error-context"
spelling kw.Export = codes "export"
spelling kw.F32 = codes "f32"
spelling kw.F64 = codes "f64"
spelling kw.Flags = codes "flags"
spelling kw.From = codes "from"
spelling kw.Func = codes "func"
spelling kw.Future = codes "future"
spelling kw.Import = codes "import"
spelling kw.Include = codes "include"
spelling kw.Interface = codes "interface"
spelling kw.List = codes "list"
spelling kw.Map = codes "map"
spelling kw.Option = codes "option"
spelling kw.Own = codes "own"
spelling kw.Package = codes "package"
spelling kw.Record = codes "record"
spelling kw.Resource = codes "resource"
spelling kw.Result = codes "result"
spelling kw.S16 = codes "s16"
spelling kw.S32 = codes "s32"
spelling kw.S64 = codes "s64"
spelling kw.S8 = codes "s8"
spelling kw.Static = codes "static"
spelling kw.Stream = codes "stream"
spelling kw.String = codes "string"
spelling kw.Tuple = codes "tuple"
spelling kw.«Type» = codes "type"
spelling kw.U16 = codes "u16"
spelling kw.U32 = codes "u32"
spelling kw.U64 = codes "u64"
spelling kw.U8 = codes "u8"
spelling kw.Use = codes "use"
spelling kw.Variant = codes "variant"
spelling kw.With = codes "with"
spelling kw.World = codes "world"

-- all keywords of WIT, those of features that are left out too, in alphabetical order
unfoldable pub keywords : List Keyword
keywords = kw.As ∷ kw.Async ∷ kw.Bool ∷ kw.Borrow ∷ kw.Char ∷ kw.Constructor ∷ kw.Enum ∷ kw.ErrorContext ∷ kw.Export ∷ kw.F32 ∷ kw.F64 ∷ kw.Flags ∷ kw.From ∷ kw.Func ∷ kw.Future ∷ kw.Import ∷ kw.Include ∷ kw.Interface ∷ kw.List ∷ kw.Map ∷ kw.Option ∷ kw.Own ∷ kw.Package ∷ kw.Record ∷ kw.Resource ∷ kw.Result ∷ kw.S16 ∷ kw.S32 ∷ kw.S64 ∷ kw.S8 ∷ kw.Static ∷ kw.Stream ∷ kw.String ∷ kw.Tuple ∷ kw.«Type» ∷ kw.U16 ∷ kw.U32 ∷ kw.U64 ∷ kw.U8 ∷ kw.Use ∷ kw.Variant ∷ kw.With ∷ kw.World ∷ []

-- the first of these that is spelled so
abbrev pub keyword_in : List Keyword → List ℕ → Option Keyword
keyword_in [] word = None
keyword_in (k ∷ ks) word = if bytes_eq word (spelling k) then Some k else keyword_in ks word

-- the keyword that is spelled so
abbrev pub keyword_of : List ℕ → Option Keyword
keyword_of word = keyword_in keywords word

-- the last byte of a word that begins with c and goes on with these
abbrev pub last_from : ℕ → List ℕ → ℕ
last_from c [] = c
last_from c (d ∷ ds) = last_from d ds

-- A word's place, by its first and last byte and its length. No two keywords have the same.
abbrev pub word_place : List ℕ → ℕ
word_place [] = 0
word_place (c ∷ cs) = (23 * c + 29 * last_from c cs + length (c ∷ cs)) % 128

-- the first of these keywords that has this place
abbrev pub placed_in : List Keyword → ℕ → Option Keyword
placed_in [] place = None
placed_in (k ∷ ks) place = if word_place (spelling k) == place then Some k else placed_in ks place

-- the keyword that has this place
abbrev pub keyword_at : ℕ → Option Keyword
keyword_at place = placed_in keywords place
