-- The canonical text of a file (WIT.md, "WIT Grammar", says what it spells): a line for each item, members of a definition on lines of
-- their own, one blank behind a comma or a colon, and none elsewhere but round `=`, `->` and before an opening brace.
use Rattle.std.specs.Prelude.{ℕ, List, [], ◌∷◌, ◌++◌, Option, Some, None}
use Rattle.wit_tokens.specs.declared.token.Keyword.{Keyword}
use Rattle.wit_tokens.specs.declared.token.Keyword.TheVariants as kw
use Rattle.wit_tokens.specs.declared.token.Punctuation.TheVariants as mark
use Rattle.wit_tokens.specs.declared.wit_syntax.ast.Primitive.{Primitive}
use Rattle.wit_tokens.specs.declared.wit_syntax.ast.Primitive.TheVariants as primitive
use Rattle.wit_tokens.specs.declared.wit_syntax.ast.Direction.{Direction}
use Rattle.wit_tokens.specs.declared.wit_syntax.ast.Direction.TheVariants as direction
use Rattle.wit_tokens.specs.Syntax.{Ty, Prim, Named, ListOf, OptionOf, TupleOf, ResultOf, Tys, none, more, Absent, Present, Member, CaseOf, UsedAs, Alias, Record, Variant, Enumeration, FlagSet, Function, PathTo, Local, Foreign, Entry, Uses, Defines, Declares, WorldEntry, Whole, Single, FileEntry, AnInterface, AWorld, File, TypeBody}
use Rattle.wit_print.specs.Words.{Word, words_text, mark_word, keyword_word, name_word, version_word}

-- ---- blanks: one, a new line, one with two blanks or with four, and an empty line

-- one blank, between words of a line
abbrev pub blank : List ℕ
blank = 32 ∷ []

-- the end of a line
abbrev pub line : List ℕ
line = 10 ∷ []

-- a new line for an item of an interface or a world, two blanks in
abbrev pub item_line : List ℕ
item_line = 10 ∷ 32 ∷ 32 ∷ []

-- a new line for a field, a case, an enum's name or a flag, four blanks in
abbrev pub member_line : List ℕ
member_line = 10 ∷ 32 ∷ 32 ∷ 32 ∷ 32 ∷ []

-- an empty line, before an interface or a world
abbrev pub empty_line : List ℕ
empty_line = 10 ∷ 10 ∷ []

-- ---- types, each behind these blanks

-- the keyword of a primitive type or `string`
abbrev pub primitive_keyword : Primitive → Keyword
primitive_keyword primitive.Bool = kw.Bool
primitive_keyword primitive.Char = kw.Char
primitive_keyword primitive.String = kw.String
primitive_keyword primitive.S8 = kw.S8
primitive_keyword primitive.S16 = kw.S16
primitive_keyword primitive.S32 = kw.S32
primitive_keyword primitive.S64 = kw.S64
primitive_keyword primitive.U8 = kw.U8
primitive_keyword primitive.U16 = kw.U16
primitive_keyword primitive.U32 = kw.U32
primitive_keyword primitive.U64 = kw.U64

abbrev mutual
  -- the words of a type expression, with these blanks before the first
  pub ty_words : List ℕ → Ty → List Word
  ty_words space (Prim p) = keyword_word space (primitive_keyword p) ∷ []
  ty_words space (Named n) = name_word space n ∷ []
  ty_words space (ListOf t) = keyword_word space kw.List ∷ mark_word [] mark.Less ∷ (ty_words [] t ++ mark_word [] mark.Greater ∷ [])
  ty_words space (OptionOf t) = keyword_word space kw.Option ∷ mark_word [] mark.Less ∷ (ty_words [] t ++ mark_word [] mark.Greater ∷ [])
  ty_words space (TupleOf ts) = keyword_word space kw.Tuple ∷ mark_word [] mark.Less ∷ tys_words [] ts
  ty_words space (ResultOf Absent Absent) = keyword_word space kw.Result ∷ []
  ty_words space (ResultOf Absent (Present e)) =
      keyword_word space kw.Result ∷ mark_word [] mark.Less ∷ mark_word [] mark.Underscore ∷ mark_word [] mark.Comma ∷ (ty_words blank e ++ mark_word [] mark.Greater ∷ [])
  ty_words space (ResultOf (Present t) Absent) = keyword_word space kw.Result ∷ mark_word [] mark.Less ∷ (ty_words [] t ++ mark_word [] mark.Greater ∷ [])
  ty_words space (ResultOf (Present t) (Present e)) =
      keyword_word space kw.Result ∷ mark_word [] mark.Less ∷ (ty_words [] t ++ mark_word [] mark.Comma ∷ (ty_words blank e ++ mark_word [] mark.Greater ∷ []))

  -- the types of a tuple and the `>` that ends them, with these blanks before the first
  pub tys_words : List ℕ → Tys → List Word
  tys_words space none = mark_word [] mark.Greater ∷ []
  tys_words space (more t none) = ty_words space t ++ mark_word [] mark.Greater ∷ []
  tys_words space (more t (more u ts)) = ty_words space t ++ mark_word [] mark.Comma ∷ tys_words blank (more u ts)

-- ---- functions

-- `name: ty` of a parameter or a field, with these blanks before it
abbrev pub member_words : List ℕ → Member → List Word
member_words space m = name_word space m.name ∷ mark_word [] mark.Colon ∷ ty_words blank m.ty

-- a list with commas between its entries, and then this word, with these blanks before the first entry
abbrev pub listed_words : {X : Type 0} → (List ℕ → X → List Word) → Word → List ℕ → List X → List Word
listed_words words end space [] = end ∷ []
listed_words words end space (x ∷ []) = words space x ++ end ∷ []
listed_words words end space (x ∷ y ∷ xs) = words space x ++ mark_word [] mark.Comma ∷ listed_words words end blank (y ∷ xs)

-- the parameters of a function and the `)` that ends them, with these blanks before the first
abbrev pub parameter_words : List ℕ → List Member → List Word
parameter_words = listed_words member_words (mark_word [] mark.CloseParenthesis)

-- ` -> ty`, or nothing if a function has no result
abbrev pub result_words : Option Ty → List Word
result_words None = []
result_words (Some t) = mark_word blank mark.Arrow ∷ ty_words blank t

-- `: func(..)` with its result and `;`, after the name of a function
abbrev pub function_words : Function → List Word
function_words f =
    mark_word [] mark.Colon ∷ keyword_word blank kw.Func ∷ mark_word [] mark.OpenParenthesis
    ∷ (parameter_words [] f.params ++ (result_words f.result ++ mark_word [] mark.Semicolon ∷ []))

-- ---- definitions

-- the payload of a case in parentheses, or nothing
abbrev pub payload_words : Option Ty → List Word
payload_words None = []
payload_words (Some t) = mark_word [] mark.OpenParenthesis ∷ (ty_words [] t ++ mark_word [] mark.CloseParenthesis ∷ [])

-- a field of a record, on a line of its own
abbrev pub field_words : Member → List Word
field_words m = member_words member_line m

-- a case of a variant, on a line of its own
abbrev pub case_words : CaseOf → List Word
case_words c = name_word member_line c.name ∷ payload_words c.payload

-- the name of an enum's case or of a flag, on a line of its own
abbrev pub label_words : List ℕ → List Word
label_words n = name_word member_line n ∷ []

-- entries, each with a comma after it, and the `}` of a declared type on a line of its own
abbrev pub lined_words : {X : Type 0} → (X → List Word) → List X → List Word
lined_words words [] = mark_word item_line mark.CloseBrace ∷ []
lined_words words (x ∷ xs) = words x ++ mark_word [] mark.Comma ∷ lined_words words xs

-- the declaration of a type of this name, from its keyword on
abbrev pub definition_words : List ℕ → TypeBody → List Word
definition_words n (Alias t) = keyword_word item_line kw.«Type» ∷ name_word blank n ∷ mark_word blank mark.Equals ∷ (ty_words blank t ++ mark_word [] mark.Semicolon ∷ [])
definition_words n (Record ms) = keyword_word item_line kw.Record ∷ name_word blank n ∷ mark_word blank mark.OpenBrace ∷ lined_words field_words ms
definition_words n (Variant cs) = keyword_word item_line kw.Variant ∷ name_word blank n ∷ mark_word blank mark.OpenBrace ∷ lined_words case_words cs
definition_words n (Enumeration ns) = keyword_word item_line kw.Enum ∷ name_word blank n ∷ mark_word blank mark.OpenBrace ∷ lined_words label_words ns
definition_words n (FlagSet ns) = keyword_word item_line kw.Flags ∷ name_word blank n ∷ mark_word blank mark.OpenBrace ∷ lined_words label_words ns

-- ---- items

-- ` as name`, or nothing
abbrev pub local_words : Option (List ℕ) → List Word
local_words None = []
local_words (Some n) = keyword_word blank kw.As ∷ name_word blank n ∷ []

-- a name of a `use`, with these blanks before it and its local name after it, if it has one
abbrev pub used_words : List ℕ → UsedAs → List Word
used_words space u = name_word space u.name ∷ local_words u.local

-- the names of a `use` and the `}` that ends them, with these blanks before the first
abbrev pub uses_words : List ℕ → List UsedAs → List Word
uses_words = listed_words used_words (mark_word [] mark.CloseBrace)

-- `@` and a version, or nothing
abbrev pub version_words : Option (List ℕ) → List Word
version_words None = []
version_words (Some v) = version_word v ∷ []

-- the path of an interface, with these blanks before it
abbrev pub path_words : List ℕ → PathTo → List Word
path_words space (Local n) = name_word space n ∷ []
path_words space (Foreign namespace name v i) = name_word space namespace ∷ mark_word [] mark.Colon ∷ name_word [] name ∷ mark_word [] mark.Slash ∷ name_word [] i ∷ version_words v

-- an item of an interface, on lines of its own
abbrev pub entry_words : Entry → List Word
entry_words (Uses at path us) =
    keyword_word item_line kw.Use ∷ (path_words blank path ++ mark_word [] mark.Dot ∷ mark_word [] mark.OpenBrace
    ∷ (uses_words [] us ++ mark_word [] mark.Semicolon ∷ []))
entry_words (Defines at n d) = definition_words n d
entry_words (Declares at n f) = name_word item_line n ∷ function_words f

-- `import` or `export`
abbrev pub direction_keyword : Direction → Keyword
direction_keyword direction.Import = kw.Import
direction_keyword direction.Export = kw.Export

-- an item of a world, on a line of its own
abbrev pub world_entry_words : WorldEntry → List Word
world_entry_words (Whole d path) = keyword_word item_line (direction_keyword d) ∷ (path_words blank path ++ mark_word [] mark.Semicolon ∷ [])
world_entry_words (Single d at n f) = keyword_word item_line (direction_keyword d) ∷ name_word blank n ∷ function_words f

-- the items of an interface or a world, and the `}` that ends them on a line of its own
abbrev pub braced_words : {X : Type 0} → (X → List Word) → List X → List Word
braced_words words [] = mark_word line mark.CloseBrace ∷ []
braced_words words (x ∷ xs) = words x ++ braced_words words xs

-- ---- files

-- an interface or a world, with an empty line before it
abbrev pub file_entry_words : FileEntry → List Word
file_entry_words (AnInterface n es) = keyword_word empty_line kw.Interface ∷ name_word blank n ∷ mark_word blank mark.OpenBrace ∷ braced_words entry_words es
file_entry_words (AWorld at n es) = keyword_word empty_line kw.World ∷ name_word blank n ∷ mark_word blank mark.OpenBrace ∷ braced_words world_entry_words es

-- the interfaces and worlds of a file, in order
abbrev pub items_words : List FileEntry → List Word
items_words [] = []
items_words (e ∷ es) = file_entry_words e ++ items_words es

-- a whole file: the line of its package, then its interfaces and worlds
abbrev pub file_words : File → List Word
file_words f =
    keyword_word [] kw.Package ∷ name_word blank f.namespace ∷ mark_word [] mark.Colon ∷ name_word [] f.name
    ∷ (version_words f.version ++ mark_word [] mark.Semicolon ∷ items_words f.entries)

-- the text: its words, and the end of its last line
abbrev pub canonical_text : File → List ℕ
canonical_text f = words_text (file_words f) line
