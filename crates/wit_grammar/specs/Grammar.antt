-- The grammar of WIT texts (WIT.md), production by production. `end` is the length of the text; the number behind it says
-- how deep a type may nest.
use Rattle.std.specs.Prelude.{ℕ, zero, suc, Bool, true, false, ◌&&◌, ◌||◌, is_some, List, [], ◌∷◌, Option, Some, None, if◌then◌else◌}
use Rattle.std.specs.Str.{is_utf8}
use Rattle.atoms.specs.Label.{is_label}
use Rattle.atoms.specs.FullName.{is_package_label, is_version}
use Rattle.atoms.specs.Production.{give, never, ◌>>=◌, one, when, optional, unless_some, many, listed, comma_or, entries, all}
use Rattle.wit_tokens.specs.declared.token.Keyword.{Keyword}
use Rattle.wit_tokens.specs.declared.token.Keyword.TheVariants as kw
use Rattle.wit_tokens.specs.declared.token.Punctuation.{Punctuation}
use Rattle.wit_tokens.specs.declared.token.Punctuation.TheVariants as mark
use Rattle.wit_tokens.specs.declared.token.TokenKind.{TokenKind}
use Rattle.wit_tokens.specs.declared.token.TokenKind.TheVariants as kind
use Rattle.wit_tokens.specs.declared.token.Span.{Span}
use Rattle.wit_tokens.specs.declared.error.Expected.{Expected}
use Rattle.wit_tokens.specs.declared.error.Expected.TheVariants as want
use Rattle.wit_tokens.specs.declared.error.Feature.{Feature}
use Rattle.wit_tokens.specs.declared.error.Feature.TheVariants as feature
use Rattle.wit_tokens.specs.declared.error.TextError.{TextError}
use Rattle.wit_tokens.specs.declared.error.TextError.TheVariants as error
use Rattle.wit_grammar.specs.declared.types.Start.{Start}
use Rattle.wit_grammar.specs.declared.types.Start.TheVariants as start
use Rattle.wit_grammar.specs.declared.starts.ItemStart.{ItemStart}
use Rattle.wit_grammar.specs.declared.starts.ItemStart.TheVariants as begin
use Rattle.wit_tokens.specs.declared.wit_syntax.ast.Primitive.TheVariants as primitive
use Rattle.wit_tokens.specs.declared.wit_syntax.ast.Direction.{Direction}
use Rattle.wit_tokens.specs.declared.wit_syntax.ast.Direction.TheVariants as direction
use Rattle.wit_tokens.specs.Lexing.{limit}
use Rattle.wit_tokens.specs.Tokens.{Lexeme, span_of}
use Rattle.wit_grammar.specs.Faults.{wanted, is, feature_or, unless_feature}
use Rattle.wit_grammar.specs.Lookahead.{Phrase}
use Rattle.wit_tokens.specs.Syntax.{Ty, Prim, Named, ListOf, OptionOf, TupleOf, ResultOf, Absent, Present, tys_of, Member, CaseOf, UsedAs, Alias, Record, Variant, Enumeration, FlagSet, Function, PathTo, Local, Foreign, Entry, Uses, Defines, Declares, WorldEntry, Whole, Single, FileEntry, AnInterface, AWorld, HeaderNames, File, TypeBody}

-- ---- tokens

-- `:`
abbrev pub colon : TokenKind
colon = kind.Punctuation mark.Colon

-- `;`
abbrev pub semicolon : TokenKind
semicolon = kind.Punctuation mark.Semicolon

-- `,`
abbrev pub comma : TokenKind
comma = kind.Punctuation mark.Comma

-- `{`
abbrev pub open_brace : TokenKind
open_brace = kind.Punctuation mark.OpenBrace

-- `}`
abbrev pub close_brace : TokenKind
close_brace = kind.Punctuation mark.CloseBrace

-- `(`
abbrev pub open_parenthesis : TokenKind
open_parenthesis = kind.Punctuation mark.OpenParenthesis

-- `)`
abbrev pub close_parenthesis : TokenKind
close_parenthesis = kind.Punctuation mark.CloseParenthesis

-- `<`
abbrev pub less : TokenKind
less = kind.Punctuation mark.Less

-- `>`
abbrev pub greater : TokenKind
greater = kind.Punctuation mark.Greater

-- `_`, in `result<_, e>`
abbrev pub underscore : TokenKind
underscore = kind.Punctuation mark.Underscore

-- `->`
abbrev pub arrow : TokenKind
arrow = kind.Punctuation mark.Arrow

-- one token of this kind, else a fault that expects e
abbrev pub token_of_kind : ℕ → TokenKind → Expected → Phrase Lexeme
token_of_kind end k e = one (is k) (wanted end e)

-- a token of this kind, or nothing
abbrev pub peek : TokenKind → Phrase (Option Lexeme)
peek k = optional (is k) give

-- one mark of this kind
unfoldable pub punctuation : ℕ → Punctuation → Phrase Lexeme
punctuation end p = token_of_kind end (kind.Punctuation p) (want.Punctuation p)

-- an identifier that is a label; keywords are tokens of their own kinds
unfoldable pub is_name : Lexeme → Bool
is_name t = is kind.Identifier t && is_label t.text

-- `id` of WIT.md: its letters, without the `%` that may mark it
unfoldable pub id : ℕ → Phrase (List ℕ)
id end = do
  t ← one is_name (wanted end want.Identifier)
  give t.text

-- the feature that this token begins where this kind of token does, if any
abbrev pub feature_at : TokenKind → Feature → Lexeme → Option Feature
feature_at k f t = if is k t then Some f else None

-- ---- the package

-- an identifier as the names of packages have it: a label in lower case
unfoldable pub is_lower_name : Lexeme → Bool
is_lower_name t = is kind.Identifier t && is_package_label t.text

-- the namespace or the name of a package
unfoldable pub lower_id : ℕ → Phrase (List ℕ)
lower_id end = do
  t ← one is_lower_name (wanted end want.Identifier)
  give t.text

-- a version in UTF-8 as Semantic Versioning has it
abbrev pub is_version_text : List ℕ → Bool
is_version_text text = is_utf8 text && is_version text

-- a token of `@` and a version of Semantic Versioning; its text is the version alone
unfoldable pub is_version_token : Lexeme → Bool
is_version_token t = is kind.Version t && is_version_text t.text

-- the version after `@`, or none
unfoldable pub version : Phrase (Option (List ℕ))
version = optional is_version_token (λ t. give t.text)

-- `@` stands before what a later version gates
abbrev pub gate : Punctuation → Option Feature
gate mark.At = Some feature.Gate
gate _ = None

-- a gate, as `@since` and `@unstable` have it, if a token of this kind begins one
abbrev pub first_feature : TokenKind → Option Feature
first_feature (kind.Punctuation p) = gate p
first_feature _ = None

-- where a file, or a case of a variant or an enum begins
abbrev pub gate_feature : Lexeme → Option Feature
gate_feature t = first_feature t.token.kind

-- the fault of a file that doesn't begin with `package`
unfoldable pub first_fault : ℕ → List Lexeme → TextError
first_fault end = unless_feature end gate_feature (want.Keyword kw.Package)

-- what is expected at this token in place of a mark: a version, if a malformed one is met and none was read; else the
-- mark
abbrev pub version_or : Option (List ℕ) → Punctuation → Lexeme → Expected
version_or None p t = if is kind.Version t then want.Version else want.Punctuation p
version_or (Some v) p t = want.Punctuation p

-- the fault in place of the `;` after a package's name and version: `{` would begin a nested package
unfoldable pub header_fault : ℕ → Option (List ℕ) → List Lexeme → TextError
header_fault end v [] = wanted end (want.Punctuation mark.Semicolon) []
header_fault end v (t ∷ ts) = feature_or (feature_at open_brace feature.NestedPackage t) (version_or v mark.Semicolon t) (span_of t.token)

-- `package`, the first token of a file
unfoldable pub package_word : ℕ → Phrase Lexeme
package_word end = one (is (kind.Keyword kw.Package)) (first_fault end)

-- the `;` that ends the head of a file
unfoldable pub header_end : ℕ → Option (List ℕ) → Phrase Lexeme
header_end end v = one (is semicolon) (header_fault end v)

-- `package-decl` of WIT.md: `package namespace:name@version;`, the version optional
unfoldable pub header : ℕ → Phrase HeaderNames
header end = do
  a ← package_word end
  namespace ← lower_id end
  b ← punctuation end mark.Colon
  name ← lower_id end
  v ← version
  c ← header_end end v
  give (record { namespace = namespace; name = name; version = v })

-- ---- types

-- what a keyword is at the place of a type
abbrev pub keyword_start : Keyword → Start
keyword_start kw.Bool = start.Plain primitive.Bool
keyword_start kw.Char = start.Plain primitive.Char
keyword_start kw.String = start.Plain primitive.String
keyword_start kw.S8 = start.Plain primitive.S8
keyword_start kw.S16 = start.Plain primitive.S16
keyword_start kw.S32 = start.Plain primitive.S32
keyword_start kw.S64 = start.Plain primitive.S64
keyword_start kw.U8 = start.Plain primitive.U8
keyword_start kw.U16 = start.Plain primitive.U16
keyword_start kw.U32 = start.Plain primitive.U32
keyword_start kw.U64 = start.Plain primitive.U64
keyword_start kw.List = start.List
keyword_start kw.Option = start.Option
keyword_start kw.Tuple = start.Tuple
keyword_start kw.Result = start.Result
keyword_start kw.F32 = start.LeftOut feature.Float
keyword_start kw.F64 = start.LeftOut feature.Float
keyword_start kw.Own = start.LeftOut feature.Resource
keyword_start kw.Borrow = start.LeftOut feature.Resource
keyword_start kw.Stream = start.LeftOut feature.Stream
keyword_start kw.Future = start.LeftOut feature.Future
keyword_start kw.Map = start.LeftOut feature.Map
keyword_start kw.ErrorContext = start.LeftOut feature.ErrorContext
keyword_start kw.Async = start.LeftOut feature.Async
keyword_start _ = start.Nothing

-- what a token of this kind is at the place of a type; names are told apart before
abbrev pub kind_start : TokenKind → Start
kind_start (kind.Keyword k) = keyword_start k
kind_start _ = start.Nothing

-- a type begins so, and packages here may have it
abbrev pub is_start : Start → Bool
is_start (start.LeftOut f) = false
is_start start.Nothing = false
is_start _ = true

-- the token begins a type that packages here may have: a name or a keyword of types
unfoldable pub begins_type : Lexeme → Bool
begins_type t = is_name t || is_start (kind_start t.token.kind)

-- the fault of a token at the place of a type: a feature left out, no type, or one nested too deep
abbrev pub start_fault : Start → Span → TextError
start_fault (start.LeftOut f) at = error.Unsupported f at
start_fault start.Nothing at = error.Expected want.Identifier at
start_fault _ at = error.Depth at

-- the fault of this token at the place of a type, where a name is a type nested too deep
abbrev pub fault_at : Lexeme → TextError
fault_at t = if is_name t then error.Depth (span_of t.token) else start_fault (kind_start t.token.kind) (span_of t.token)

-- the fault at the place of a type: no type begins here, or no deeper nesting is allowed
unfoldable pub type_fault : ℕ → List Lexeme → TextError
type_fault end [] = wanted end want.Identifier []
type_fault end (t ∷ ts) = fault_at t

-- `result` without types
abbrev pub is_bare : Ty → Bool
is_bare (ResultOf Absent Absent) = true
is_bare _ = false

-- what is expected in place of the `>` that ends a type's arguments: also `<` if `result` alone comes before it
abbrev pub greater_wanted : Ty → Expected
greater_wanted t = if is_bare t then want.Punctuation mark.Less else want.Punctuation mark.Greater

-- the `>` that ends `list<t>`; a comma would give a list of fixed length
unfoldable pub close_list : ℕ → Ty → Phrase Lexeme
close_list end t = one (is greater) (unless_feature end (feature_at comma feature.FixedLengthList) (greater_wanted t))

-- the `>` that ends `option<t>` or `result<..>`, after the type t
unfoldable pub close_angle : ℕ → Ty → Phrase Lexeme
close_angle end t = one (is greater) (wanted end (greater_wanted t))

-- `<t>` after `list`
unfoldable pub list : ℕ → Phrase Ty → Phrase Ty
list end inner = do
  a ← punctuation end mark.Less
  t ← inner
  b ← close_list end t
  give (ListOf t)

-- `<t>` after `option`
unfoldable pub option : ℕ → Phrase Ty → Phrase Ty
option end inner = do
  a ← punctuation end mark.Less
  t ← inner
  b ← close_angle end t
  give (OptionOf t)

-- the fault where a list has neither its next comma nor its end
abbrev pub comma_wanted : {X : Type 0} → ℕ → X → List Lexeme → TextError
comma_wanted end x = wanted end (want.Punctuation mark.Comma)

-- the types of a tuple up to `>`, with commas between and perhaps at the end
abbrev pub members : ℕ → Phrase Ty → ℕ → Phrase (List Ty)
members end inner = listed (is comma) (is greater) (comma_wanted end) inner

-- `<t, ..>` after `tuple`, with one type at least
unfoldable pub tuple : ℕ → Phrase Ty → Phrase Ty
tuple end inner = do
  a ← punctuation end mark.Less
  ts ← members end inner limit
  give (TupleOf (tys_of ts))

-- the error type of a result, and the `>` that ends it
unfoldable pub error_type : ℕ → Phrase Ty → Phrase Ty
error_type end inner = do
  e ← inner
  b ← close_angle end e
  give e

-- `, e>` after `result<_`
unfoldable pub result_error : ℕ → Phrase Ty → Phrase Ty
result_error end inner = do
  a ← punctuation end mark.Comma
  e ← error_type end inner
  give (ResultOf Absent (Present e))

-- the rest of a result after `result<t`: `>`, or `, e>`
unfoldable pub result_rest : ℕ → Phrase Ty → Ty → Phrase Ty
result_rest end inner t = do
  s ← one (λ s. is greater s || is comma s) (comma_wanted end t)
  when (is greater s) (give (ResultOf (Present t) Absent)) (error_type end inner >>= λ e. give (ResultOf (Present t) (Present e)))

-- `t>` or `t, e>` after `result<`
unfoldable pub result_ok : ℕ → Phrase Ty → Phrase Ty
result_ok end inner = do
  t ← inner
  result_rest end inner t

-- `_, e>`, `t>` or `t, e>` after `result<`
unfoldable pub result_parts : ℕ → Phrase Ty → Phrase Ty
result_parts end inner = do
  u ← peek underscore
  unless_some u (result_error end inner) (result_ok end inner)

-- the result that was read after the keyword, or `result` alone
abbrev pub or_bare : Option Ty → Ty
or_bare None = ResultOf Absent Absent
or_bare (Some t) = t

-- what may be written after `result`: nothing, or types in `<` and `>`
unfoldable pub result_type : ℕ → Phrase Ty → Phrase Ty
result_type end inner = do
  r ← optional (is less) (λ t. result_parts end inner)
  give (or_bare r)

-- the rest of a type after the keyword that begins it
unfoldable pub begun : ℕ → Phrase Ty → Start → Phrase Ty
begun end inner (start.Plain p) = give (Prim p)
begun end inner start.List = list end inner
begun end inner start.Option = option end inner
begun end inner start.Tuple = tuple end inner
begun end inner start.Result = result_type end inner
begun end inner _ = never (type_fault end)

-- the rest of a type after its first token, a name or a keyword
unfoldable pub type_behind : ℕ → Phrase Ty → Lexeme → Phrase Ty
type_behind end inner t = when (is_name t) (give (Named t.text)) (begun end inner (kind_start t.token.kind))

-- `ty` of WIT.md, with this production for the types in it
unfoldable pub type_phrase : ℕ → Phrase Ty → Phrase Ty
type_phrase end inner = do
  t ← one begins_type (type_fault end)
  type_behind end inner t

-- `ty` of WIT.md, with types nested at most n deep, the outermost counted
unfoldable pub ty : ℕ → ℕ → Phrase Ty
ty end zero = never (type_fault end)
ty end (suc n) = type_phrase end (ty end n)

-- how deep a type of a text may nest
abbrev pub nesting : ℕ
nesting = 64

-- ---- functions

-- `named-type` of WIT.md, `id: ty`: a parameter of a function or a field of a record
unfoldable pub member : ℕ → ℕ → Phrase Member
member end n = do
  name ← id end
  a ← punctuation end mark.Colon
  t ← ty end n
  give (record { name = name; ty = t })

-- a comma or the `)` that ends the parameters; the last parameter has no comma
unfoldable pub after_member : ℕ → Phrase Bool
after_member end = comma_or (is comma) (is close_parenthesis) (comma_wanted end end)

-- parameters up to `)`, at least one, with commas between them and none at the end
abbrev pub param_list : ℕ → ℕ → ℕ → Phrase (List Member)
param_list end n = entries (λ m. after_member end) (member end n) (never (wanted end want.Identifier))

-- the parameters of a function after its `(`, and the `)` that ends them
unfoldable pub parameters : ℕ → ℕ → Phrase (List Member)
parameters end n = do
  c ← peek close_parenthesis
  unless_some c (give []) (param_list end n limit)

-- the fault at the place of a function's result after `->`: `(` would begin named results
unfoldable pub result_fault : ℕ → List Lexeme → TextError
result_fault end [] = wanted end want.Identifier []
result_fault end (t ∷ ts) = if is open_parenthesis t then error.Unsupported feature.NamedResults (span_of t.token) else fault_at t

-- the type after `->`, with types nested at most n deep
unfoldable pub function_result : ℕ → ℕ → Phrase Ty
function_result end zero = never (result_fault end)
function_result end (suc n) = do
  t ← one begins_type (result_fault end)
  type_behind end (ty end n) t

-- `func`, else the feature that this token begins, or a fault that expects `func`
unfoldable pub func_word : ℕ → (Lexeme → Option Feature) → Phrase Lexeme
func_word end f = one (is (kind.Keyword kw.Func)) (unless_feature end f (want.Keyword kw.Func))

-- `-> ty`, or none
unfoldable pub optional_result : ℕ → ℕ → Phrase (Option Ty)
optional_result end n = optional (is arrow) (λ t. function_result end n)

-- the parameters and the result of a function, after `func`
unfoldable pub function : ℕ → ℕ → Phrase Function
function end n = do
  b ← punctuation end mark.OpenParenthesis
  ps ← parameters end n
  r ← optional_result end n
  give (record { params = ps; result = r })

-- what may come after a function: `->` too if it has no result
abbrev pub after_function : Function → Expected
after_function f = if is_some f.result then want.Punctuation mark.Semicolon else want.Punctuation mark.Arrow

-- the `;` after a function
unfoldable pub function_end : ℕ → Function → Phrase Lexeme
function_end end f = one (is semicolon) (wanted end (after_function f))

-- the parameters and the result of a function, and the `;` that ends it
unfoldable pub whole_function : ℕ → ℕ → Phrase Function
whole_function end n = do
  f ← function end n
  b ← function_end end f
  give f

-- ---- paths

-- `/interface@version` of a path, after the names of its package
unfoldable pub foreign : ℕ → (namespace name : List ℕ) → Phrase PathTo
foreign end namespace name = do
  a ← punctuation end mark.Slash
  interface ← id end
  v ← version
  give (Foreign namespace name v interface)

-- `name/interface@version` of a path, after `namespace:`
unfoldable pub behind_namespace : ℕ → (namespace : List ℕ) → Phrase PathTo
behind_namespace end namespace = do
  name ← id end
  foreign end namespace name

-- the path that was read after `:`, or an interface of the file's own package if there is none
abbrev pub path_or : List ℕ → Option PathTo → PathTo
path_or first None = Local first
path_or first (Some p) = p

-- `use-path` of WIT.md, after its first id
unfoldable pub path : ℕ → (first : List ℕ) → Phrase PathTo
path end first = do
  p ← optional (is colon) (λ t. behind_namespace end first)
  give (path_or first p)

-- what is expected after a path that this mark ends, if the mark is not there
abbrev pub path_wanted : PathTo → Punctuation → List Lexeme → Expected
path_wanted (Local i) p ts = want.Punctuation mark.Colon
path_wanted (Foreign namespace name v i) p [] = want.Punctuation p
path_wanted (Foreign namespace name v i) p (t ∷ ts) = version_or v p t

-- the fault after a path that this mark is to end
unfoldable pub path_fault : ℕ → PathTo → Punctuation → List Lexeme → TextError
path_fault end x p ts = wanted end (path_wanted x p ts) ts

-- the mark that ends a path: `.` in a `use`, `;` in a world
unfoldable pub path_end : ℕ → PathTo → Punctuation → Phrase Lexeme
path_end end x p = one (is (kind.Punctuation p)) (path_fault end x p)

-- ---- uses

-- `as` and a name, or nothing
unfoldable pub local_alias : ℕ → Phrase (Option (List ℕ))
local_alias end = optional (is (kind.Keyword kw.As)) (λ t. id end)

-- one name of a `use`, perhaps with `as` and its local name
unfoldable pub used : ℕ → Phrase UsedAs
used end = do
  name ← id end
  local ← local_alias end
  give (record { name = name; local = local })

-- what may come after a name of a `use`: `as` too if it has no local name
abbrev pub after_used : UsedAs → Expected
after_used u = if is_some u.local then want.Punctuation mark.Comma else want.Keyword kw.As

-- the fault after a name of a `use`, if neither a comma nor `}` comes
abbrev pub used_fault : ℕ → UsedAs → List Lexeme → TextError
used_fault end u = wanted end (after_used u)

-- the names of a `use` up to `}`, at least one, with commas between and perhaps at the end
abbrev pub used_list : ℕ → ℕ → Phrase (List UsedAs)
used_list end = listed (is comma) (is close_brace) (used_fault end) (used end)

-- `use-item` of WIT.md after its keyword, whose span is this
unfoldable pub use_item : ℕ → Span → Phrase Entry
use_item end at = do
  i ← id end
  p ← path end i
  a ← path_end end p mark.Dot
  b ← punctuation end mark.OpenBrace
  us ← used_list end limit
  c ← punctuation end mark.Semicolon
  give (Uses at p us)

-- ---- type definitions, each behind its keyword

-- `type-item` of WIT.md after its name: `= ty;`
unfoldable pub alias : ℕ → ℕ → Phrase TypeBody
alias end n = do
  a ← punctuation end mark.Equals
  t ← ty end n
  b ← punctuation end mark.Semicolon
  give (Alias t)

-- the fields of a record up to `}`, at least one, with commas between and perhaps at the end
abbrev pub field_list : ℕ → ℕ → ℕ → Phrase (List Member)
field_list end n = listed (is comma) (is close_brace) (comma_wanted end) (member end n)

-- the fields of a record in braces, after its name
unfoldable pub record_body : ℕ → ℕ → Phrase TypeBody
record_body end n = do
  a ← punctuation end mark.OpenBrace
  ms ← field_list end n limit
  give (Record ms)

-- the payload of a case after its `(`, and the `)` that ends it
unfoldable pub payload : ℕ → ℕ → Phrase Ty
payload end n = do
  t ← ty end n
  b ← punctuation end mark.CloseParenthesis
  give t

-- the payload of a case in parentheses, or none
unfoldable pub optional_payload : ℕ → ℕ → Phrase (Option Ty)
optional_payload end n = optional (is open_parenthesis) (λ t. payload end n)

-- the fault at the place of a case of a variant or an enum: `@` would begin a gate
unfoldable pub case_fault : ℕ → List Lexeme → TextError
case_fault end = unless_feature end gate_feature want.Identifier

-- the name of a case of a variant or an enum
unfoldable pub case_id : ℕ → Phrase (List ℕ)
case_id end = do
  t ← one is_name (case_fault end)
  give t.text

-- `variant-case` of WIT.md: a name, perhaps with a payload
unfoldable pub variant_case : ℕ → ℕ → Phrase CaseOf
variant_case end n = do
  name ← case_id end
  p ← optional_payload end n
  give (record { name = name; payload = p })

-- the cases of a variant up to `}`, at least one, with commas between and perhaps at the end
abbrev pub case_list : ℕ → ℕ → ℕ → Phrase (List CaseOf)
case_list end n = listed (is comma) (is close_brace) (comma_wanted end) (variant_case end n)

-- the cases of a variant in braces, after its name
unfoldable pub variant_body : ℕ → ℕ → Phrase TypeBody
variant_body end n = do
  a ← punctuation end mark.OpenBrace
  cs ← case_list end n limit
  give (Variant cs)

-- the name of a case of an enum (true), before which a gate may be met, or of a flag (false)
unfoldable pub name_of_case : ℕ → Bool → Phrase (List ℕ)
name_of_case end true = case_id end
name_of_case end false = id end

-- names of cases or flags up to `}`, at least one, with commas between and perhaps at the end
abbrev pub name_list : ℕ → Bool → ℕ → Phrase (List (List ℕ))
name_list end gated = listed (is comma) (is close_brace) (comma_wanted end) (name_of_case end gated)

-- the cases of an enum in braces, after its name
unfoldable pub enum_cases : ℕ → Phrase TypeBody
enum_cases end = do
  a ← punctuation end mark.OpenBrace
  ns ← name_list end true limit
  give (Enumeration ns)

-- the names of flags in braces, after the type's name
unfoldable pub flag_names : ℕ → Phrase TypeBody
flag_names end = do
  a ← punctuation end mark.OpenBrace
  ns ← name_list end false limit
  give (FlagSet ns)

-- ---- interfaces

-- what a keyword is where an item of an interface may stand
abbrev pub item_keyword : Keyword → ItemStart
item_keyword kw.Use = begin.Use
item_keyword kw.«Type» = begin.Alias
item_keyword kw.Record = begin.Record
item_keyword kw.Variant = begin.Variant
item_keyword kw.Enum = begin.Enum
item_keyword kw.Flags = begin.Flags
item_keyword kw.Resource = begin.LeftOut feature.Resource
item_keyword _ = begin.Nothing

-- what a mark is in place of an item of an interface: `@` begins a gate
abbrev pub item_mark : Punctuation → ItemStart
item_mark mark.At = begin.LeftOut feature.Gate
item_mark _ = begin.Nothing

-- what a token of this kind is in place of an item of an interface; names are told apart before
abbrev pub item_kind : TokenKind → ItemStart
item_kind (kind.Keyword k) = item_keyword k
item_kind (kind.Punctuation p) = item_mark p
item_kind _ = begin.Nothing

-- an item begins so, and interfaces here may have it
abbrev pub is_item_start : ItemStart → Bool
is_item_start (begin.LeftOut f) = false
is_item_start begin.Nothing = false
is_item_start _ = true

-- the token begins an item of an interface: a function's name, `use`, or the keyword of a type
unfoldable pub begins_entry : Lexeme → Bool
begins_entry t = is_name t || is_item_start (item_kind t.token.kind)

-- the feature left out that an item of an interface begins with, if it does
abbrev pub item_feature : ItemStart → Option Feature
item_feature (begin.LeftOut f) = Some f
item_feature _ = None

-- the fault at the place of an item of an interface
unfoldable pub entry_fault : ℕ → List Lexeme → TextError
entry_fault end = unless_feature end (λ t. item_feature (item_kind t.token.kind)) want.Identifier

-- what is written after the name of a type, by the keyword before the name
unfoldable pub definition : ℕ → ℕ → ItemStart → Phrase TypeBody
definition end n begin.Alias = alias end n
definition end n begin.Record = record_body end n
definition end n begin.Variant = variant_body end n
definition end n begin.Enum = enum_cases end
definition end n begin.Flags = flag_names end
definition end n _ = never (entry_fault end)

-- a type declaration after its keyword, whose span is this: its name, and what is written after it
unfoldable pub defined : ℕ → ℕ → ItemStart → Span → Phrase Entry
defined end n s at = do
  name ← id end
  d ← definition end n s
  give (Defines at name d)

-- `async` before `func`, which is left out
abbrev pub async_feature : Lexeme → Option Feature
async_feature = feature_at (kind.Keyword kw.Async) feature.Async

-- `: func` and a function's type and `;`, after its name
unfoldable pub declared : ℕ → ℕ → Span → List ℕ → Phrase Entry
declared end n at name = do
  a ← punctuation end mark.Colon
  b ← func_word end async_feature
  f ← whole_function end n
  give (Declares at name f)

-- an item of an interface after its keyword, whose span is this
unfoldable pub keyword_entry : ℕ → ℕ → ItemStart → Span → Phrase Entry
keyword_entry end n begin.Use at = use_item end at
keyword_entry end n (begin.LeftOut f) at = never (entry_fault end)
keyword_entry end n begin.Nothing at = never (entry_fault end)
keyword_entry end n s at = defined end n s at

-- an item of an interface after its first token
unfoldable pub entry_behind : ℕ → ℕ → Lexeme → Phrase Entry
entry_behind end n t = when (is_name t) (declared end n (span_of t.token) t.text) (keyword_entry end n (item_kind t.token.kind) (span_of t.token))

-- `interface-items` of WIT.md: one item of an interface
unfoldable pub entry : ℕ → ℕ → Phrase Entry
entry end n = do
  t ← one begins_entry (entry_fault end)
  entry_behind end n t

-- the items of an interface up to `}`, perhaps none
abbrev pub entry_list : ℕ → ℕ → ℕ → Phrase (List Entry)
entry_list end n = many (is close_brace) (wanted end want.Identifier) (entry end n)

-- `interface-item` of WIT.md after its keyword: its name, and its items in braces
unfoldable pub interface : ℕ → ℕ → Phrase FileEntry
interface end n = do
  name ← id end
  a ← punctuation end mark.OpenBrace
  es ← entry_list end n limit
  give (AnInterface name es)

-- ---- worlds

-- whether the keyword imports or exports an item of a world, none if it is another
abbrev pub keyword_direction : Keyword → Option Direction
keyword_direction kw.Import = Some direction.Import
keyword_direction kw.Export = Some direction.Export
keyword_direction _ = None

-- whether a token of this kind imports or exports an item of a world, none if it is another
abbrev pub direction_of : TokenKind → Option Direction
direction_of (kind.Keyword k) = keyword_direction k
direction_of _ = None

-- the token is `import` or `export`
abbrev pub begins_world_entry : Lexeme → Bool
begins_world_entry t = is_some (direction_of t.token.kind)

-- the feature left out that a keyword begins in place of an item of a world, if any
abbrev pub world_keyword : Keyword → Option Feature
world_keyword kw.Include = Some feature.Include
world_keyword kw.Use = Some feature.WorldUse
world_keyword kw.«Type» = Some feature.WorldType
world_keyword kw.Record = Some feature.WorldType
world_keyword kw.Variant = Some feature.WorldType
world_keyword kw.Enum = Some feature.WorldType
world_keyword kw.Flags = Some feature.WorldType
world_keyword kw.Resource = Some feature.WorldType
world_keyword _ = None

-- the feature left out that a token of this kind begins in place of an item of a world, if any
abbrev pub world_feature : TokenKind → Option Feature
world_feature (kind.Keyword k) = world_keyword k
world_feature (kind.Punctuation p) = gate p
world_feature _ = None

-- the fault at the place of an item of a world
unfoldable pub world_fault : ℕ → List Lexeme → TextError
world_fault end = unless_feature end (λ t. world_feature t.token.kind) (want.Keyword kw.Export)

-- the feature left out that a keyword begins after `name:` of an item of a world, if any
abbrev pub single_keyword : Keyword → Option Feature
single_keyword kw.Async = Some feature.Async
single_keyword kw.Interface = Some feature.InlineInterface
single_keyword _ = None

-- the feature left out that a token of this kind begins after `name:` of an item of a world, if any
abbrev pub single_kind : TokenKind → Option Feature
single_kind (kind.Keyword k) = single_keyword k
single_kind _ = None

-- the feature left out that this token begins after `name:` of an item of a world, if any
abbrev pub single_feature : Lexeme → Option Feature
single_feature t = single_kind t.token.kind

-- the fault after `name:` of an item of a world, where `func` or an id may come
unfoldable pub single_fault : ℕ → List Lexeme → TextError
single_fault end = unless_feature end single_feature want.Identifier

-- the token goes on after `name:` of an item of a world: a name of a path, or `func`
unfoldable pub begins_behind_colon : Lexeme → Bool
begins_behind_colon t = is_name t || is (kind.Keyword kw.Func) t

-- another package's interface as an item of a world, after `namespace:name`, and the `;` that ends it
unfoldable pub whole_foreign : ℕ → Direction → (namespace name : List ℕ) → Phrase WorldEntry
whole_foreign end d namespace name = do
  p ← foreign end namespace name
  b ← path_end end p mark.Semicolon
  give (Whole d p)

-- a function of a world after `func`, and the `;` that ends it
unfoldable pub single : ℕ → ℕ → Direction → Span → List ℕ → Phrase WorldEntry
single end n d at name = do
  f ← whole_function end n
  give (Single d at name f)

-- an item of a world after `name:` and the token after that: a path goes on with its name, a function with `func`
unfoldable pub colon_behind : ℕ → ℕ → Direction → Span → List ℕ → Lexeme → Phrase WorldEntry
colon_behind end n d at name t = when (is_name t) (whole_foreign end d name t.text) (single end n d at name)

-- an item of a world from the `:` after its first name on
unfoldable pub world_colon : ℕ → ℕ → Direction → Span → List ℕ → Phrase WorldEntry
world_colon end n d at name = do
  a ← punctuation end mark.Colon
  t ← one begins_behind_colon (single_fault end)
  colon_behind end n d at name t

-- an item of a world after `import` or `export`: an interface or a function
unfoldable pub world_entry_behind : ℕ → ℕ → Direction → Span → Phrase WorldEntry
world_entry_behind end n d at = do
  name ← id end
  s ← peek semicolon
  unless_some s (give (Whole d (Local name))) (world_colon end n d at name)

-- an item of a world after its first token, which imports or exports
abbrev pub directed_entry : ℕ → ℕ → Option Direction → Span → Phrase WorldEntry
directed_entry end n (Some d) at = world_entry_behind end n d at
directed_entry end n None at = never (world_fault end)

-- `world-items` of WIT.md: an `import` or an `export`
unfoldable pub world_entry : ℕ → ℕ → Phrase WorldEntry
world_entry end n = do
  t ← one begins_world_entry (world_fault end)
  directed_entry end n (direction_of t.token.kind) (span_of t.token)

-- the items of a world up to `}`, perhaps none
abbrev pub world_list : ℕ → ℕ → ℕ → Phrase (List WorldEntry)
world_list end n = many (is close_brace) (wanted end (want.Keyword kw.Export)) (world_entry end n)

-- `world-item` of WIT.md after its keyword, whose span is this: its name, and its items in braces
unfoldable pub world : ℕ → ℕ → Span → Phrase FileEntry
world end n at = do
  name ← id end
  a ← punctuation end mark.OpenBrace
  es ← world_list end n limit
  give (AWorld at name es)

-- ---- the file

-- the feature left out that a keyword begins in place of an interface or a world, if any
abbrev pub file_keyword : Keyword → Option Feature
file_keyword kw.Use = Some feature.TopLevelUse
file_keyword kw.Package = Some feature.NestedPackage
file_keyword _ = None

-- the feature left out that a token of this kind begins in place of an interface or a world, if any
abbrev pub file_feature : TokenKind → Option Feature
file_feature (kind.Keyword k) = file_keyword k
file_feature (kind.Punctuation p) = gate p
file_feature _ = None

-- the fault at the place of an interface or a world of a file
unfoldable pub file_fault : ℕ → List Lexeme → TextError
file_fault end = unless_feature end (λ t. file_feature t.token.kind) (want.Keyword kw.Interface)

-- the token is `interface`
abbrev pub is_interface : Lexeme → Bool
is_interface = is (kind.Keyword kw.Interface)

-- the token is `interface` or `world`
abbrev pub begins_item : Lexeme → Bool
begins_item t = is_interface t || is (kind.Keyword kw.World) t

-- an interface or a world of a file, after its keyword
unfoldable pub item : ℕ → ℕ → Lexeme → Phrase FileEntry
item end n t = when (is_interface t) (interface end n) (world end n (span_of t.token))

-- an interface or a world of a file, or the end of its items
unfoldable pub optional_item : ℕ → ℕ → Phrase (Option FileEntry)
optional_item end n = optional begins_item (item end n)

-- the interfaces and worlds of a file after its head, up to its end
abbrev pub items : ℕ → ℕ → ℕ → Phrase (List FileEntry)
items end n = all begins_item (file_fault end) (item end n)

-- `wit-file` of WIT.md: the head, and the interfaces and worlds up to the end of the tokens
unfoldable pub file : ℕ → ℕ → Phrase File
file end n = do
  h ← header end
  es ← items end n limit
  give (record { namespace = h.namespace; name = h.name; version = h.version; entries = es })
