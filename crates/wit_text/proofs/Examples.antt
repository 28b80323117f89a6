-- Worked examples: the trees of small texts by the grammar of WIT, and texts that are refused, with their errors.
use Rattle.std.proofs.Common.{◌≡◌, ◌<◌, ℕ, zero, suc, true, List, [], ◌∷◌, ◌++◌, length, replicate, get_or, Option, Some, None, Result, Ok, Err, codes, refl, sym, ap, ◌∙◌, arith}
use Rattle.std.specs.Prelude.{nat_le, ⊤}
use Rattle.std.specs.List.{concat}
use Rattle.std.specs.Str.{is_utf8, chars}
use lib.Utf8.{encode}
use Rattle.atoms.proofs.Examples.{names_on_literals}
use Rattle.atoms.specs.Production.{many, separator, listed, comma_or, entries, all}
use Rattle.atoms.proofs.productions.ProductionsReadExactly.{ok_is, no_err, err_is}
use Rattle.wit_tokens.specs.declared.token.Keyword.TheVariants as kw
use Rattle.wit_tokens.specs.declared.token.Punctuation.TheVariants as mark
use Rattle.wit_tokens.specs.declared.token.Span.{Span}
use Rattle.wit_tokens.specs.declared.token.Token.{Token}
use Rattle.wit_tokens.specs.declared.error.Expected.{Expected}
use Rattle.wit_tokens.specs.declared.error.Expected.TheVariants as want
use Rattle.wit_tokens.specs.declared.error.Feature.TheVariants as feature
use Rattle.wit_tokens.specs.declared.error.TextError.{TextError}
use Rattle.wit_tokens.specs.declared.error.TextError.TheVariants as error
use Rattle.wit_tokens.specs.Lexing.{limit}
use Rattle.wit_tokens.specs.Tokens.{Lexeme, lexemes}
use Rattle.wit_tokens.proofs.TokensStepByStep.{tokens_on_literals, walked, lexed, spoilt, within, faulty}
use Rattle.wit_tokens.proofs.TextsHaveOneReading.{one_lexing}
use Rattle.wit_tokens.specs.declared.wit_syntax.ast.Primitive.TheVariants as primitive
use Rattle.wit_tokens.specs.declared.wit_syntax.ast.Direction.TheVariants as direction
use Rattle.wit_tokens.specs.Syntax.{Ty, Prim, Named, ListOf, OptionOf, TupleOf, ResultOf, Absent, Present, tys_of, Member, CaseOf, UsedAs, Alias, Record, Variant, Enumeration, FlagSet, Local, Foreign, Entry, Uses, Defines, Declares, WorldEntry, Whole, Single, FileEntry, AnInterface, AWorld, File, ty_depth}
use Rattle.wit_grammar.specs.Faults.{Fails}
use Rattle.wit_grammar.specs.Grammar.{file, nesting}
use Rattle.wit_grammar.specs.Grammar as g
use Rattle.wit_text.specs.Reading.{IsRead, FaultyText}
use Rattle.wit_text.proofs.TokensTellTheText.{is_found, only_that, none_read, is_faulty, lex_faulty}

-- what an example unfolds to compute the tree of a text that is written out
unfoldable pub texts_on_literals : ⊤
unfolding tokens_on_literals names_on_literals is_utf8 chars encode many separator listed comma_or entries all g.punctuation g.is_name g.id g.is_lower_name g.lower_id g.is_version_token g.version g.first_fault g.header_fault g.package_word g.header_end g.header g.begins_type g.type_fault g.close_list g.close_angle g.list g.option g.tuple g.error_type g.result_error g.result_rest g.result_ok g.result_parts g.result_type g.begun g.type_behind g.type_phrase g.ty g.member g.after_member g.parameters g.result_fault g.function_result g.func_word g.optional_result g.function g.function_end g.whole_function g.foreign g.behind_namespace g.path g.path_fault g.path_end g.local_alias g.used g.use_item g.alias g.record_body g.payload g.optional_payload g.case_fault g.case_id g.variant_case g.variant_body g.name_of_case g.enum_cases g.flag_names g.begins_entry g.entry_fault g.definition g.defined g.declared g.keyword_entry g.entry_behind g.entry g.interface g.world_fault g.single_fault g.begins_behind_colon g.whole_foreign g.single g.colon_behind g.world_colon g.world_entry_behind g.world_entry g.world g.file_fault g.item g.file
texts_on_literals = tt

-- ---- the tree of a text, by its tokens

abbrev of_tokens : List ℕ → Result (List Token) TextError → Result (File × List Lexeme) TextError
of_tokens text (Ok ts) = (file (length text) nesting).read (lexemes text ts)
of_tokens text (Err e) = Err e

abbrev tree_of : List ℕ → Result (File × List Lexeme) TextError
tree_of text = of_tokens text (walked text)

read-by : (text : List ℕ) (f : File) (r : Result (List Token) TextError) → nat_le (length text) 1048576 ≡ true → walked text ≡ r → of_tokens text r ≡ Ok (f, []) → IsRead text f
read-by text f (Ok ts) short w h = let l = lexed text ts w in is_found text ts (within text short) l (λ us vs. one_lexing text us vs) f h
read-by text f (Err e) short w h = absurd (no_err (f, []) e (sym h))

is_read : {text : List ℕ} {f : File} → nat_le (length text) 1048576 ≡ true → tree_of text ≡ Ok (f, []) → IsRead text f
is_read {text = text} {f = f} short h = read-by text f (walked text) short refl h

met : {Y : Type 0} (e : TextError) (r : Result Y TextError) → r ≡ Err e → Fails e r
met (error.BadChar s) r h = h
met (error.OpenComment s) r h = h
met error.Limit r h = h
met error.NoMemory r h = tt
met (error.Expected k s) r h = h
met (error.Unsupported k s) r h = h
met (error.Depth s) r h = h

-- the text is refused with this error, and has no tree
record Refused (text : List ℕ) (e : TextError) : Type 0 where
  fault : FaultyText text e

refused-by : (text : List ℕ) (e : TextError) (r : Result (List Token) TextError) → nat_le (length text) 1048576 ≡ true → walked text ≡ r → of_tokens text r ≡ Err e → FaultyText text e
refused-by text e (Ok ts) short w h = is_faulty text ts (within text short) (lexed text ts w) (λ us vs. one_lexing text us vs) e (met e ((file (length text) nesting).read (lexemes text ts)) h)
refused-by text e (Err d) short w h = let same : ◌≡◌ {A = Result (List Token) TextError} (Err d) (Err e) = ap (λ (x : TextError). Err x) (err_is d e h) in lex_faulty text e (faulty text e (within text short) (spoilt text e (w ∙ same)))

refused : {text : List ℕ} {e : TextError} → nat_le (length text) 1048576 ≡ true → tree_of text ≡ Err e → Refused text e
refused {text = text} {e = e} short h = record { fault = refused-by text e (walked text) short refl h }

only-by : (text : List ℕ) (f g : File) (r : Result (List Token) TextError) → nat_le (length text) 1048576 ≡ true → walked text ≡ r → of_tokens text r ≡ Ok (f, []) → IsRead text g → f ≡ g
only-by text f g (Ok ts) short w h i = sym (ok_is g f (only_that text ts (within text short) (lexed text ts w) (λ us vs. one_lexing text us vs) f g h i))
only-by text f g (Err e) short w h i = absurd (no_err (f, []) e (sym h))

only_tree : {text : List ℕ} {f g : File} → nat_le (length text) 1048576 ≡ true → tree_of text ≡ Ok (f, []) → IsRead text g → f ≡ g
only_tree {text = text} {f = f} {g = g} short h i = only-by text f g (walked text) short refl h i

none-by : (text : List ℕ) (k : Expected) (s : Span) (f : File) (r : Result (List Token) TextError) → nat_le (length text) 1048576 ≡ true → walked text ≡ r → of_tokens text r ≡ Err (error.Expected k s) → IsRead text f → ⊥
none-by text k s f (Ok ts) short w h i = no_err f (error.Expected k s) (none_read text ts (within text short) (lexed text ts w) (λ us vs. one_lexing text us vs) (error.Expected k s) f h i)
none-by text k s f (Err d) short w h i = let same : ◌≡◌ {A = Result (List Token) TextError} (Err d) (Err (error.Expected k s)) = ap (λ (x : TextError). Err x) (err_is d (error.Expected k s) h) in absurd (spoilt text (error.Expected k s) (w ∙ same))

no_tree : {text : List ℕ} {f : File} (k : Expected) (s : Span) → nat_le (length text) 1048576 ≡ true → tree_of text ≡ Err (error.Expected k s) → IsRead text f → ⊥
no_tree {text = text} {f = f} k s short h i = none-by text k s f (walked text) short refl h i

-- ---- short words for trees

abbrev span : ℕ → ℕ → Span
span s e = record { start = s; end = e }

abbrev tree : List ℕ → List ℕ → Option (List ℕ) → List FileEntry → File
tree namespace name version entries = record { namespace = namespace; name = name; version = version; entries = entries }

abbrev member : List ℕ → Ty → Member
member name ty = record { name = name; ty = ty }

abbrev bare : List ℕ → CaseOf
bare name = record { name = name; payload = None }

abbrev loaded : List ℕ → Ty → CaseOf
loaded name ty = record { name = name; payload = Some ty }

abbrev used : List ℕ → UsedAs
used name = record { name = name; local = None }

abbrev used-as : List ℕ → List ℕ → UsedAs
used-as name local = record { name = name; local = Some local }

abbrev interface-text : List ℕ
interface-text = codes "package a:b-z2@1.2.0-rc.1; interface C { use d.{e, f as g}; use h:I/j@0.1.0.{k, }; use l:m/n.{%use}; type o = list<u8>; record p { q: bool, %record: char, } variant r { s, t(string) } enum u { v, w, } flags x { y } z: func(); a-a: func(b-b: o, %list: option<p>) -> result<_, s8>; }"

abbrev interface-entries : List Entry
interface-entries =
    Uses (span 41 44) (Local (codes "d")) (used (codes "e") ∷ used-as (codes "f") (codes "g") ∷ [])
    ∷ Uses (span 60 63) (Foreign (codes "h") (codes "I") (Some (codes "0.1.0")) (codes "j")) (used (codes "k") ∷ [])
    ∷ Uses (span 83 86) (Foreign (codes "l") (codes "m") None (codes "n")) (used (codes "use") ∷ [])
    ∷ Defines (span 101 105) (codes "o") (Alias (ListOf (Prim primitive.U8)))
    ∷ Defines (span 120 126) (codes "p") (Record (member (codes "q") (Prim primitive.Bool) ∷ member (codes "record") (Prim primitive.Char) ∷ []))
    ∷ Defines (span 157 164) (codes "r") (Variant (bare (codes "s") ∷ loaded (codes "t") (Prim primitive.String) ∷ []))
    ∷ Defines (span 184 188) (codes "u") (Enumeration (codes "v" ∷ codes "w" ∷ []))
    ∷ Defines (span 201 206) (codes "x") (FlagSet (codes "y" ∷ []))
    ∷ Declares (span 215 216) (codes "z") (record { params = []; result = None })
    ∷ Declares (span 226 229) (codes "a-a") (record { params = member (codes "b-b") (Named (codes "o")) ∷ member (codes "list") (OptionOf (Named (codes "p"))) ∷ []; result = Some (ResultOf Absent (Present (Prim primitive.S8))) })
    ∷ []

abbrev world-text : List ℕ
world-text = codes "package a:b; interface c { } world W1-z { import c; export d:e/F@1.2.0; import g:h/i; export run: func(x: u16) -> tuple<s16, u32, s32, >; import a1: func(); } interface d { f: func(); }"

abbrev world-entries : List WorldEntry
world-entries =
    Whole direction.Import (Local (codes "c"))
    ∷ Whole direction.Export (Foreign (codes "d") (codes "e") (Some (codes "1.2.0")) (codes "F"))
    ∷ Whole direction.Import (Foreign (codes "g") (codes "h") None (codes "i"))
    ∷ Single direction.Export (span 86 92) (codes "run") (record { params = member (codes "x") (Prim primitive.U16) ∷ []; result = Some (TupleOf (tys_of (Prim primitive.S16 ∷ Prim primitive.U32 ∷ Prim primitive.S32 ∷ []))) })
    ∷ Single direction.Import (span 138 144) (codes "a1") (record { params = []; result = None })
    ∷ []

abbrev types-text : List ℕ
types-text = codes "package a:b; interface c { f: func(a: s8, b: s16, c: s32, d: s64, e: u8, f: u16, g: u32, h: u64, i: bool, j: char, k: string, l: %u8) -> result; g: func() -> result<u64>; h: func() -> result<list<s64>, result<_, k>>; i: func() -> tuple<option<result>>; }"

abbrev types-entries : List Entry
types-entries =
    Declares (span 27 28) (codes "f") (record { params = member (codes "a") (Prim primitive.S8) ∷ member (codes "b") (Prim primitive.S16) ∷ member (codes "c") (Prim primitive.S32) ∷ member (codes "d") (Prim primitive.S64) ∷ member (codes "e") (Prim primitive.U8) ∷ member (codes "f") (Prim primitive.U16) ∷ member (codes "g") (Prim primitive.U32) ∷ member (codes "h") (Prim primitive.U64) ∷ member (codes "i") (Prim primitive.Bool) ∷ member (codes "j") (Prim primitive.Char) ∷ member (codes "k") (Prim primitive.String) ∷ member (codes "l") (Named (codes "u8")) ∷ []; result = Some (ResultOf Absent Absent) })
    ∷ Declares (span 145 146) (codes "g") (record { params = []; result = Some (ResultOf (Present (Prim primitive.U64)) Absent) })
    ∷ Declares (span 171 172) (codes "h") (record { params = []; result = Some (ResultOf (Present (ListOf (Prim primitive.S64))) (Present (ResultOf Absent (Present (Named (codes "k")))))) })
    ∷ Declares (span 217 218) (codes "i") (record { params = []; result = Some (TupleOf (tys_of (OptionOf (ResultOf Absent Absent) ∷ []))) })
    ∷ []

-- `type t` of so many times `list<` around this
abbrev nested : ℕ → List ℕ → List ℕ
nested n inner = codes "package a:b; interface c { type t = " ++ (concat (replicate n (codes "list<")) ++ (inner ++ (replicate n 62 ++ codes "; }")))

abbrev lists : ℕ → Ty
lists zero = Prim primitive.U8
lists (suc n) = ListOf (lists n)

-- ---- trees

-- each kind of item of an interface, with the spans of their first tokens
interface-read : IsRead interface-text (tree (codes "a") (codes "b-z2") (Some (codes "1.2.0-rc.1")) (AnInterface (codes "C") interface-entries ∷ []))
unfolding texts_on_literals
interface-read = is_read refl refl

-- items of a world: an interface of the text, one of a package with a version and one without, and functions
world-read : IsRead world-text (tree (codes "a") (codes "b") None (AnInterface (codes "c") [] ∷ AWorld (span 29 34) (codes "W1-z") world-entries ∷ AnInterface (codes "d") (Declares (span 173 174) (codes "f") (record { params = []; result = None }) ∷ []) ∷ []))
unfolding texts_on_literals
world-read = is_read refl refl

-- each type
types-read : IsRead types-text (tree (codes "a") (codes "b") None (AnInterface (codes "c") types-entries ∷ []))
unfolding texts_on_literals
types-read = is_read refl refl

-- a package alone
package-read : IsRead (codes "/* a */ package a:b; // c") (tree (codes "a") (codes "b") None [])
unfolding texts_on_literals
package-read = is_read refl refl

-- a text has no other tree, and one that is refused has none
package-other : IsRead (codes "package a:b;") (tree (codes "a") (codes "c") None []) → ⊥
unfolding texts_on_literals
package-other h = let e : tree (codes "a") (codes "b") None [] ≡ tree (codes "a") (codes "c") None [] = only_tree refl refl h in let f : get_or (codes "b") 0 0 ≡ get_or (codes "c") 0 0 = ap (λ (f : File). get_or f.name 0 0) e in omega (arith, f)

comma-none : (f : File) → IsRead (codes "package a:b; interface c { f: func(a: u8,); }") f → ⊥
unfolding texts_on_literals
comma-none f h = no_tree (want.Identifier) (span 41 42) refl refl h

-- ---- error 34: types nest at most 64 deep

nested-64 : IsRead (nested 63 (codes "u8")) (tree (codes "a") (codes "b") None (AnInterface (codes "c") (Defines (span 27 31) (codes "t") (Alias (lists 63)) ∷ []) ∷ []))
unfolding texts_on_literals
nested-64 = is_read refl refl

nested-65 : Refused (nested 64 (codes "u8")) (error.Depth (span 356 358))
unfolding texts_on_literals
nested-65 = refused refl refl

nested-name : Refused (nested 64 (codes "name")) (error.Depth (span 356 360))
unfolding texts_on_literals
nested-name = refused refl refl

nested-result : Refused (nested 64 (codes "result<u8>")) (error.Depth (span 356 362))
unfolding texts_on_literals
nested-result = refused refl refl

-- what begins no type is not too deep
nested-float : Refused (nested 64 (codes "f32")) (error.Unsupported feature.Float (span 356 359))
unfolding texts_on_literals
nested-float = refused refl refl

nested-none : Refused (nested 64 []) (error.Expected want.Identifier (span 356 357))
unfolding texts_on_literals
nested-none = refused refl refl

-- a result nests as any other type
nested-func : Refused (codes "package a:b; interface c { f: func() -> " ++ (concat (replicate 64 (codes "list<")) ++ codes "u8")) (error.Depth (span 360 362))
unfolding texts_on_literals
nested-func = refused refl refl

depths : (ty_depth (Prim primitive.U8) ≡ 1) × (ty_depth (Named (codes "a")) ≡ 1) × (ty_depth (lists 3) ≡ 4) × (ty_depth (OptionOf (lists 1)) ≡ 3) × (ty_depth (TupleOf (tys_of (Prim primitive.U8 ∷ lists 2 ∷ Prim primitive.U8 ∷ []))) ≡ 4) × (ty_depth (ResultOf Absent Absent) ≡ 1) × (ty_depth (ResultOf (Present (lists 1)) (Present (lists 4))) ≡ 6) × (ty_depth (ResultOf (Present (lists 4)) Absent) ≡ 6)
depths = (refl, refl, refl, refl, refl, refl, refl, refl)

-- ---- error 36: 1,048,576 bytes are read, one more is too many

too-long : (text : List ℕ) → length text ≡ 1048577 → FaultyText text error.Limit
unfolding limit
too-long text h = omega (arith, h)

too-long-unread : (text : List ℕ) (f : File) → length text ≡ 1048577 → IsRead text f → ⊥
unfolding limit
too-long-unread text f h r = omega (arith, h, r.short)

long-enough : (text : List ℕ) → length text ≡ 1048576 → FaultyText text error.Limit → ⊥
unfolding limit
long-enough text h f = let e : 1048576 < length text = f in omega (arith, h, e)

-- ---- error 32 and 33: the package and the items of a file

no-package : Refused (codes "interface c { }") (error.Expected (want.Keyword kw.Package) (span 0 9))
unfolding texts_on_literals
no-package = refused refl refl

-- at the end the span is empty, after blanks and comments
no-text : Refused (codes " // nothing" ++ 10 ∷ []) (error.Expected (want.Keyword kw.Package) (span 12 12))
unfolding texts_on_literals
no-text = refused refl refl

gate-first : Refused (codes "@since(version = 1.0.0) package a:b;") (error.Unsupported feature.Gate (span 0 1))
unfolding texts_on_literals
gate-first = refused refl refl

-- names of packages have no upper case
upper-namespace : Refused (codes "package A:b;") (error.Expected want.Identifier (span 8 9))
unfolding texts_on_literals
upper-namespace = refused refl refl

upper-package : Refused (codes "package a:b-C;") (error.Expected want.Identifier (span 10 13))
unfolding texts_on_literals
upper-package = refused refl refl

keyword-namespace : Refused (codes "package list:b;") (error.Expected want.Identifier (span 8 12))
unfolding texts_on_literals
keyword-namespace = refused refl refl

no-colon : Refused (codes "package a;") (error.Expected (want.Punctuation mark.Colon) (span 9 10))
unfolding texts_on_literals
no-colon = refused refl refl

no-semicolon : Refused (codes "package a:b interface c { }") (error.Expected (want.Punctuation mark.Semicolon) (span 12 21))
unfolding texts_on_literals
no-semicolon = refused refl refl

no-semicolon-at-end : Refused (codes "package a:b  ") (error.Expected (want.Punctuation mark.Semicolon) (span 13 13))
unfolding texts_on_literals
no-semicolon-at-end = refused refl refl

-- no version of SemVer
short-version : Refused (codes "package a:b@1.0;") (error.Expected want.Version (span 11 15))
unfolding texts_on_literals
short-version = refused refl refl

two-versions : Refused (codes "package a:b@1.0.0@1.0.0;") (error.Expected (want.Punctuation mark.Semicolon) (span 17 23))
unfolding texts_on_literals
two-versions = refused refl refl

package-block : Refused (codes "package a:b { }") (error.Unsupported feature.NestedPackage (span 12 13))
unfolding texts_on_literals
package-block = refused refl refl

package-block-version : Refused (codes "package a:b@1.0.0 { }") (error.Unsupported feature.NestedPackage (span 18 19))
unfolding texts_on_literals
package-block-version = refused refl refl

file-use : Refused (codes "package a:b; use c.{d};") (error.Unsupported feature.TopLevelUse (span 13 16))
unfolding texts_on_literals
file-use = refused refl refl

second-package : Refused (codes "package a:b; package c:d;") (error.Unsupported feature.NestedPackage (span 13 20))
unfolding texts_on_literals
second-package = refused refl refl

gate-item : Refused (codes "package a:b; @unstable(feature = x) interface c { }") (error.Unsupported feature.Gate (span 13 14))
unfolding texts_on_literals
gate-item = refused refl refl

no-item : Refused (codes "package a:b; c { }") (error.Expected (want.Keyword kw.Interface) (span 13 14))
unfolding texts_on_literals
no-item = refused refl refl

item-semicolon : Refused (codes "package a:b; interface c { };") (error.Expected (want.Keyword kw.Interface) (span 28 29))
unfolding texts_on_literals
item-semicolon = refused refl refl

-- ---- items of an interface, and functions

interface-keyword : Refused (codes "package a:b; interface list { }") (error.Expected want.Identifier (span 23 27))
unfolding texts_on_literals
interface-keyword = refused refl refl

interface-no-brace : Refused (codes "package a:b; interface c;") (error.Expected (want.Punctuation mark.OpenBrace) (span 24 25))
unfolding texts_on_literals
interface-no-brace = refused refl refl

interface-open : Refused (codes "package a:b; interface c { ") (error.Expected want.Identifier (span 27 27))
unfolding texts_on_literals
interface-open = refused refl refl

interface-import : Refused (codes "package a:b; interface c { import d; }") (error.Expected want.Identifier (span 27 33))
unfolding texts_on_literals
interface-import = refused refl refl

resource-item : Refused (codes "package a:b; interface c { resource r; }") (error.Unsupported feature.Resource (span 27 35))
unfolding texts_on_literals
resource-item = refused refl refl

gate-entry : Refused (codes "package a:b; interface c { @since(version = 1.0.0) f: func(); }") (error.Unsupported feature.Gate (span 27 28))
unfolding texts_on_literals
gate-entry = refused refl refl

func-no-colon : Refused (codes "package a:b; interface c { f; }") (error.Expected (want.Punctuation mark.Colon) (span 28 29))
unfolding texts_on_literals
func-no-colon = refused refl refl

func-colon-twice : Refused (codes "package a:b; interface c { f:: func(); }") (error.Expected (want.Keyword kw.Func) (span 29 30))
unfolding texts_on_literals
func-colon-twice = refused refl refl

func-async : Refused (codes "package a:b; interface c { f: async func(); }") (error.Unsupported feature.Async (span 30 35))
unfolding texts_on_literals
func-async = refused refl refl

func-no-parenthesis : Refused (codes "package a:b; interface c { f: func; }") (error.Expected (want.Punctuation mark.OpenParenthesis) (span 34 35))
unfolding texts_on_literals
func-no-parenthesis = refused refl refl

func-no-params : Refused (codes "package a:b; interface c { f: func(,); }") (error.Expected want.Identifier (span 35 36))
unfolding texts_on_literals
func-no-params = refused refl refl

param-keyword : Refused (codes "package a:b; interface c { f: func(list: u8); }") (error.Expected want.Identifier (span 35 39))
unfolding texts_on_literals
param-keyword = refused refl refl

param-no-type : Refused (codes "package a:b; interface c { f: func(a); }") (error.Expected (want.Punctuation mark.Colon) (span 36 37))
unfolding texts_on_literals
param-no-type = refused refl refl

param-no-comma : Refused (codes "package a:b; interface c { f: func(a: u8 b: u8); }") (error.Expected (want.Punctuation mark.Comma) (span 41 42))
unfolding texts_on_literals
param-no-comma = refused refl refl

-- no comma at the end
param-comma-last : Refused (codes "package a:b; interface c { f: func(a: u8,); }") (error.Expected want.Identifier (span 41 42))
unfolding texts_on_literals
param-comma-last = refused refl refl

func-no-semicolon : Refused (codes "package a:b; interface c { f: func() }") (error.Expected (want.Punctuation mark.Arrow) (span 37 38))
unfolding texts_on_literals
func-no-semicolon = refused refl refl

func-no-result : Refused (codes "package a:b; interface c { f: func() -> ; }") (error.Expected want.Identifier (span 40 41))
unfolding texts_on_literals
func-no-result = refused refl refl

func-result-no-semicolon : Refused (codes "package a:b; interface c { f: func() -> u8 }") (error.Expected (want.Punctuation mark.Semicolon) (span 43 44))
unfolding texts_on_literals
func-result-no-semicolon = refused refl refl

func-named-results : Refused (codes "package a:b; interface c { f: func() -> (a: u8); }") (error.Unsupported feature.NamedResults (span 40 41))
unfolding texts_on_literals
func-named-results = refused refl refl

func-result-float : Refused (codes "package a:b; interface c { f: func() -> f64; }") (error.Unsupported feature.Float (span 40 43))
unfolding texts_on_literals
func-result-float = refused refl refl

func-result-at-end : Refused (codes "package a:b; interface c { f: func() -> ") (error.Expected want.Identifier (span 40 40))
unfolding texts_on_literals
func-result-at-end = refused refl refl

-- ---- use

use-no-name : Refused (codes "package a:b; interface c { use {") (error.Expected want.Identifier (span 31 32))
unfolding texts_on_literals
use-no-name = refused refl refl

use-no-dot : Refused (codes "package a:b; interface c { use d; }") (error.Expected (want.Punctuation mark.Colon) (span 32 33))
unfolding texts_on_literals
use-no-dot = refused refl refl

use-no-package : Refused (codes "package a:b; interface c { use d:.{e}; }") (error.Expected want.Identifier (span 33 34))
unfolding texts_on_literals
use-no-package = refused refl refl

use-no-slash : Refused (codes "package a:b; interface c { use d:e.{f}; }") (error.Expected (want.Punctuation mark.Slash) (span 34 35))
unfolding texts_on_literals
use-no-slash = refused refl refl

use-no-interface : Refused (codes "package a:b; interface c { use d:e/.{f}; }") (error.Expected want.Identifier (span 35 36))
unfolding texts_on_literals
use-no-interface = refused refl refl

use-path-no-dot : Refused (codes "package a:b; interface c { use d:e/f; }") (error.Expected (want.Punctuation mark.Dot) (span 36 37))
unfolding texts_on_literals
use-path-no-dot = refused refl refl

use-short-version : Refused (codes "package a:b; interface c { use d:e/f@1.0.{g}; }") (error.Expected want.Version (span 36 40))
unfolding texts_on_literals
use-short-version = refused refl refl

use-version-no-dot : Refused (codes "package a:b; interface c { use d:e/f@1.0.0; }") (error.Expected (want.Punctuation mark.Dot) (span 42 43))
unfolding texts_on_literals
use-version-no-dot = refused refl refl

use-path-at-end : Refused (codes "package a:b; interface c { use d:e/f") (error.Expected (want.Punctuation mark.Dot) (span 36 36))
unfolding texts_on_literals
use-path-at-end = refused refl refl

use-no-brace : Refused (codes "package a:b; interface c { use d.e; }") (error.Expected (want.Punctuation mark.OpenBrace) (span 33 34))
unfolding texts_on_literals
use-no-brace = refused refl refl

use-none : Refused (codes "package a:b; interface c { use d.{}; }") (error.Expected want.Identifier (span 34 35))
unfolding texts_on_literals
use-none = refused refl refl

use-no-comma : Refused (codes "package a:b; interface c { use d.{e f}; }") (error.Expected (want.Keyword kw.As) (span 36 37))
unfolding texts_on_literals
use-no-comma = refused refl refl

use-no-local : Refused (codes "package a:b; interface c { use d.{e as , f}; }") (error.Expected want.Identifier (span 39 40))
unfolding texts_on_literals
use-no-local = refused refl refl

use-as-twice : Refused (codes "package a:b; interface c { use d.{e as f as g}; }") (error.Expected (want.Punctuation mark.Comma) (span 41 43))
unfolding texts_on_literals
use-as-twice = refused refl refl

use-no-semicolon : Refused (codes "package a:b; interface c { use d.{e} }") (error.Expected (want.Punctuation mark.Semicolon) (span 37 38))
unfolding texts_on_literals
use-no-semicolon = refused refl refl

-- ---- type definitions

type-no-name : Refused (codes "package a:b; interface c { type = u8; }") (error.Expected want.Identifier (span 32 33))
unfolding texts_on_literals
type-no-name = refused refl refl

type-no-equals : Refused (codes "package a:b; interface c { type t; }") (error.Expected (want.Punctuation mark.Equals) (span 33 34))
unfolding texts_on_literals
type-no-equals = refused refl refl

type-no-type : Refused (codes "package a:b; interface c { type t = ; }") (error.Expected want.Identifier (span 36 37))
unfolding texts_on_literals
type-no-type = refused refl refl

type-no-semicolon : Refused (codes "package a:b; interface c { type t = u8 }") (error.Expected (want.Punctuation mark.Semicolon) (span 39 40))
unfolding texts_on_literals
type-no-semicolon = refused refl refl

record-no-brace : Refused (codes "package a:b; interface c { record r; }") (error.Expected (want.Punctuation mark.OpenBrace) (span 35 36))
unfolding texts_on_literals
record-no-brace = refused refl refl

record-empty : Refused (codes "package a:b; interface c { record r { } }") (error.Expected want.Identifier (span 38 39))
unfolding texts_on_literals
record-empty = refused refl refl

record-no-colon : Refused (codes "package a:b; interface c { record r { a, b: u8 } }") (error.Expected (want.Punctuation mark.Colon) (span 39 40))
unfolding texts_on_literals
record-no-colon = refused refl refl

record-no-comma : Refused (codes "package a:b; interface c { record r { a: u8 b: u8 } }") (error.Expected (want.Punctuation mark.Comma) (span 44 45))
unfolding texts_on_literals
record-no-comma = refused refl refl

record-two-commas : Refused (codes "package a:b; interface c { record r { a: u8,, } }") (error.Expected want.Identifier (span 44 45))
unfolding texts_on_literals
record-two-commas = refused refl refl

variant-no-brace : Refused (codes "package a:b; interface c { variant v= }") (error.Expected (want.Punctuation mark.OpenBrace) (span 36 37))
unfolding texts_on_literals
variant-no-brace = refused refl refl

variant-empty : Refused (codes "package a:b; interface c { variant v { } }") (error.Expected want.Identifier (span 39 40))
unfolding texts_on_literals
variant-empty = refused refl refl

variant-gate : Refused (codes "package a:b; interface c { variant v { a, @since b } }") (error.Unsupported feature.Gate (span 42 43))
unfolding texts_on_literals
variant-gate = refused refl refl

variant-no-payload : Refused (codes "package a:b; interface c { variant v { a() } }") (error.Expected want.Identifier (span 41 42))
unfolding texts_on_literals
variant-no-payload = refused refl refl

variant-open-payload : Refused (codes "package a:b; interface c { variant v { a(u8, b } }") (error.Expected (want.Punctuation mark.CloseParenthesis) (span 43 44))
unfolding texts_on_literals
variant-open-payload = refused refl refl

variant-no-comma : Refused (codes "package a:b; interface c { variant v { a b } }") (error.Expected (want.Punctuation mark.Comma) (span 41 42))
unfolding texts_on_literals
variant-no-comma = refused refl refl

enum-gate : Refused (codes "package a:b; interface c { enum e { @since a } }") (error.Unsupported feature.Gate (span 36 37))
unfolding texts_on_literals
enum-gate = refused refl refl

enum-empty : Refused (codes "package a:b; interface c { enum e { } }") (error.Expected want.Identifier (span 36 37))
unfolding texts_on_literals
enum-empty = refused refl refl

enum-payload : Refused (codes "package a:b; interface c { enum e { a(u8) } }") (error.Expected (want.Punctuation mark.Comma) (span 37 38))
unfolding texts_on_literals
enum-payload = refused refl refl

enum-no-brace : Refused (codes "package a:b; interface c { enum e a }") (error.Expected (want.Punctuation mark.OpenBrace) (span 34 35))
unfolding texts_on_literals
enum-no-brace = refused refl refl

-- flags have no gates
flags-gate : Refused (codes "package a:b; interface c { flags f { @since a } }") (error.Expected want.Identifier (span 37 38))
unfolding texts_on_literals
flags-gate = refused refl refl

flags-empty : Refused (codes "package a:b; interface c { flags f { } }") (error.Expected want.Identifier (span 37 38))
unfolding texts_on_literals
flags-empty = refused refl refl

flags-no-comma : Refused (codes "package a:b; interface c { flags f { a ; } }") (error.Expected (want.Punctuation mark.Comma) (span 39 40))
unfolding texts_on_literals
flags-no-comma = refused refl refl

flags-no-brace : Refused (codes "package a:b; interface c { flags f; }") (error.Expected (want.Punctuation mark.OpenBrace) (span 34 35))
unfolding texts_on_literals
flags-no-brace = refused refl refl

-- ---- types

list-bare : Refused (codes "package a:b; interface c { type t = list; }") (error.Expected (want.Punctuation mark.Less) (span 40 41))
unfolding texts_on_literals
list-bare = refused refl refl

list-open : Refused (codes "package a:b; interface c { type t = list<u8; }") (error.Expected (want.Punctuation mark.Greater) (span 43 44))
unfolding texts_on_literals
list-open = refused refl refl

list-fixed : Refused (codes "package a:b; interface c { type t = list<u8, 4>; }") (error.Unsupported feature.FixedLengthList (span 43 44))
unfolding texts_on_literals
list-fixed = refused refl refl

-- after `result` alone `<` is allowed too
list-result : Refused (codes "package a:b; interface c { type t = list<result; }") (error.Expected (want.Punctuation mark.Less) (span 47 48))
unfolding texts_on_literals
list-result = refused refl refl

option-bare : Refused (codes "package a:b; interface c { type t = option; }") (error.Expected (want.Punctuation mark.Less) (span 42 43))
unfolding texts_on_literals
option-bare = refused refl refl

option-open : Refused (codes "package a:b; interface c { type t = option<u8, u8>; }") (error.Expected (want.Punctuation mark.Greater) (span 45 46))
unfolding texts_on_literals
option-open = refused refl refl

option-result : Refused (codes "package a:b; interface c { type t = option<result, u8>; }") (error.Expected (want.Punctuation mark.Less) (span 49 50))
unfolding texts_on_literals
option-result = refused refl refl

tuple-bare : Refused (codes "package a:b; interface c { type t = tuple; }") (error.Expected (want.Punctuation mark.Less) (span 41 42))
unfolding texts_on_literals
tuple-bare = refused refl refl

tuple-empty : Refused (codes "package a:b; interface c { type t = tuple<>; }") (error.Expected want.Identifier (span 42 43))
unfolding texts_on_literals
tuple-empty = refused refl refl

tuple-open : Refused (codes "package a:b; interface c { type t = tuple<u8; }") (error.Expected (want.Punctuation mark.Comma) (span 44 45))
unfolding texts_on_literals
tuple-open = refused refl refl

-- `;` comes before `<`
result-open : Refused (codes "package a:b; interface c { type t = result }") (error.Expected (want.Punctuation mark.Semicolon) (span 43 44))
unfolding texts_on_literals
result-open = refused refl refl

result-empty : Refused (codes "package a:b; interface c { type t = result<>; }") (error.Expected want.Identifier (span 43 44))
unfolding texts_on_literals
result-empty = refused refl refl

result-hidden : Refused (codes "package a:b; interface c { type t = result<_>; }") (error.Expected (want.Punctuation mark.Comma) (span 44 45))
unfolding texts_on_literals
result-hidden = refused refl refl

result-one-open : Refused (codes "package a:b; interface c { type t = result<u8; }") (error.Expected (want.Punctuation mark.Comma) (span 45 46))
unfolding texts_on_literals
result-one-open = refused refl refl

result-no-error : Refused (codes "package a:b; interface c { type t = result<u8, >; }") (error.Expected want.Identifier (span 47 48))
unfolding texts_on_literals
result-no-error = refused refl refl

result-three : Refused (codes "package a:b; interface c { type t = result<u8, u8, u8>; }") (error.Expected (want.Punctuation mark.Greater) (span 49 50))
unfolding texts_on_literals
result-three = refused refl refl

result-error-bare : Refused (codes "package a:b; interface c { type t = result<_, result; }") (error.Expected (want.Punctuation mark.Less) (span 52 53))
unfolding texts_on_literals
result-error-bare = refused refl refl

result-error-underscore : Refused (codes "package a:b; interface c { type t = result<u8, _>; }") (error.Expected want.Identifier (span 47 48))
unfolding texts_on_literals
result-error-underscore = refused refl refl

type-f32 : Refused (codes "package a:b; interface c { type t = list<f32>; }") (error.Unsupported feature.Float (span 41 44))
unfolding texts_on_literals
type-f32 = refused refl refl

type-f64 : Refused (codes "package a:b; interface c { type t = list<f64>; }") (error.Unsupported feature.Float (span 41 44))
unfolding texts_on_literals
type-f64 = refused refl refl

type-own : Refused (codes "package a:b; interface c { type t = list<own>; }") (error.Unsupported feature.Resource (span 41 44))
unfolding texts_on_literals
type-own = refused refl refl

type-borrow : Refused (codes "package a:b; interface c { type t = list<borrow>; }") (error.Unsupported feature.Resource (span 41 47))
unfolding texts_on_literals
type-borrow = refused refl refl

type-stream : Refused (codes "package a:b; interface c { type t = list<stream>; }") (error.Unsupported feature.Stream (span 41 47))
unfolding texts_on_literals
type-stream = refused refl refl

type-future : Refused (codes "package a:b; interface c { type t = list<future>; }") (error.Unsupported feature.Future (span 41 47))
unfolding texts_on_literals
type-future = refused refl refl

type-map : Refused (codes "package a:b; interface c { type t = list<map>; }") (error.Unsupported feature.Map (span 41 44))
unfolding texts_on_literals
type-map = refused refl refl

type-error-context : Refused (codes "package a:b; interface c { type t = list<error-context>; }") (error.Unsupported feature.ErrorContext (span 41 54))
unfolding texts_on_literals
type-error-context = refused refl refl

type-async : Refused (codes "package a:b; interface c { type t = list<async>; }") (error.Unsupported feature.Async (span 41 46))
unfolding texts_on_literals
type-async = refused refl refl

type-func : Refused (codes "package a:b; interface c { type t = func(); }") (error.Expected want.Identifier (span 36 40))
unfolding texts_on_literals
type-func = refused refl refl

type-mark : Refused (codes "package a:b; interface c { type t = _; }") (error.Expected want.Identifier (span 36 37))
unfolding texts_on_literals
type-mark = refused refl refl

-- ---- worlds

world-no-name : Refused (codes "package a:b; world { }") (error.Expected want.Identifier (span 19 20))
unfolding texts_on_literals
world-no-name = refused refl refl

world-no-brace : Refused (codes "package a:b; world w;") (error.Expected (want.Punctuation mark.OpenBrace) (span 20 21))
unfolding texts_on_literals
world-no-brace = refused refl refl

world-open : Refused (codes "package a:b; world w { ") (error.Expected (want.Keyword kw.Export) (span 23 23))
unfolding texts_on_literals
world-open = refused refl refl

world-name : Refused (codes "package a:b; world w { f: func(); }") (error.Expected (want.Keyword kw.Export) (span 23 24))
unfolding texts_on_literals
world-name = refused refl refl

world-include : Refused (codes "package a:b; world w { include x; }") (error.Unsupported feature.Include (span 23 30))
unfolding texts_on_literals
world-include = refused refl refl

world-use : Refused (codes "package a:b; world w { use c.{d}; }") (error.Unsupported feature.WorldUse (span 23 26))
unfolding texts_on_literals
world-use = refused refl refl

world-type : Refused (codes "package a:b; world w { type t") (error.Unsupported feature.WorldType (span 23 27))
unfolding texts_on_literals
world-type = refused refl refl

world-record : Refused (codes "package a:b; world w { record t") (error.Unsupported feature.WorldType (span 23 29))
unfolding texts_on_literals
world-record = refused refl refl

world-variant : Refused (codes "package a:b; world w { variant t") (error.Unsupported feature.WorldType (span 23 30))
unfolding texts_on_literals
world-variant = refused refl refl

world-enum : Refused (codes "package a:b; world w { enum t") (error.Unsupported feature.WorldType (span 23 27))
unfolding texts_on_literals
world-enum = refused refl refl

world-flags : Refused (codes "package a:b; world w { flags t") (error.Unsupported feature.WorldType (span 23 28))
unfolding texts_on_literals
world-flags = refused refl refl

world-resource : Refused (codes "package a:b; world w { resource t") (error.Unsupported feature.WorldType (span 23 31))
unfolding texts_on_literals
world-resource = refused refl refl

world-gate : Refused (codes "package a:b; world w { @since(version = 1.0.0) import c; }") (error.Unsupported feature.Gate (span 23 24))
unfolding texts_on_literals
world-gate = refused refl refl

import-no-name : Refused (codes "package a:b; world w { import ; }") (error.Expected want.Identifier (span 30 31))
unfolding texts_on_literals
import-no-name = refused refl refl

import-no-semicolon : Refused (codes "package a:b; world w { import a }") (error.Expected (want.Punctuation mark.Colon) (span 32 33))
unfolding texts_on_literals
import-no-semicolon = refused refl refl

import-async : Refused (codes "package a:b; world w { import a: async func(); }") (error.Unsupported feature.Async (span 33 38))
unfolding texts_on_literals
import-async = refused refl refl

export-inline : Refused (codes "package a:b; world w { export a: interface { } }") (error.Unsupported feature.InlineInterface (span 33 42))
unfolding texts_on_literals
export-inline = refused refl refl

import-nothing : Refused (codes "package a:b; world w { import a: ; }") (error.Expected want.Identifier (span 33 34))
unfolding texts_on_literals
import-nothing = refused refl refl

import-no-slash : Refused (codes "package a:b; world w { import a:b; }") (error.Expected (want.Punctuation mark.Slash) (span 33 34))
unfolding texts_on_literals
import-no-slash = refused refl refl

import-path-no-semicolon : Refused (codes "package a:b; world w { import a:b/c }") (error.Expected (want.Punctuation mark.Semicolon) (span 36 37))
unfolding texts_on_literals
import-path-no-semicolon = refused refl refl

import-short-version : Refused (codes "package a:b; world w { import a:b/c@1.0; }") (error.Expected want.Version (span 35 39))
unfolding texts_on_literals
import-short-version = refused refl refl

import-func-no-semicolon : Refused (codes "package a:b; world w { import a: func() }") (error.Expected (want.Punctuation mark.Arrow) (span 40 41))
unfolding texts_on_literals
import-func-no-semicolon = refused refl refl

export-func-float : Refused (codes "package a:b; world w { export a: func(x: f32); }") (error.Unsupported feature.Float (span 41 44))
unfolding texts_on_literals
export-func-float = refused refl refl

-- ---- error 30 and 31 come before errors of the grammar

bad-first : Refused (codes "interface $") (error.BadChar (span 10 11))
unfolding texts_on_literals
bad-first = refused refl refl

open-first : Refused (codes "interface /*") (error.OpenComment (span 10 12))
unfolding texts_on_literals
open-first = refused refl refl
