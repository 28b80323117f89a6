-- Worked examples: the tokens of small texts by the rules of WIT's lexical structure, and texts that have none.
use Rattle.std.proofs.Common.{◌≡◌, ◌<◌, ℕ, true, false, List, [], ◌∷◌, ◌++◌, length, map, replicate, Some, None, Ok, Err, codes, refl, arith}
use Rattle.std.specs.Prelude.{nat_le}
use Rattle.wit_tokens.specs.declared.token.Keyword.TheVariants as kw
use Rattle.wit_tokens.specs.declared.token.Punctuation.TheVariants as mark
use Rattle.wit_tokens.specs.declared.token.TokenKind.{TokenKind}
use Rattle.wit_tokens.specs.declared.token.TokenKind.TheVariants as kind
use Rattle.wit_tokens.specs.declared.token.Token.{Token}
use Rattle.wit_tokens.specs.declared.token.Span.{Span}
use Rattle.wit_tokens.specs.declared.error.Expected.TheVariants as want
use Rattle.wit_tokens.specs.declared.error.TextError.{TextError}
use Rattle.wit_tokens.specs.declared.error.TextError.TheVariants as error
use Rattle.wit_tokens.specs.Keywords.{keyword_of}
use Rattle.wit_tokens.specs.Lexing.{limit, Lexes, LexFault, IsBadAt}
use Rattle.wit_tokens.specs.Tokens.{Lexeme, lexemes, same_kind, span_of, bytes_of}
use Rattle.wit_tokens.proofs.TextsHaveOneReading.{one_lexing, bad_is_refused}
use Rattle.wit_tokens.proofs.TokensStepByStep.{tokens_on_literals, walked, lexed, spoilt, within, faulty}

abbrev span : ℕ → ℕ → Span
span s e = record { start = s; end = e }

abbrev tok : TokenKind → ℕ → ℕ → Token
tok k s e = record { kind = k; start = s; end = e }

lexes : {text : List ℕ} {ts : List Token} → walked text ≡ Ok ts → Lexes text ts
lexes h = lexed _ _ h

-- the text has no tokens, by this fault
record Refused (text : List ℕ) (e : TextError) : Type 0 where
  fault : LexFault text e

refused : {text : List ℕ} {e : TextError} → nat_le (length text) 1048576 ≡ true → walked text ≡ Err e → Refused text e
refused {text = text} {e = e} short h = record { fault = faulty text e (within text short) (spoilt text e h) }

-- ---- words and keywords

words : Lexes (codes "a-b A1" ++ 9 ∷ codes "b2-C3") (tok kind.Identifier 0 3 ∷ tok kind.Identifier 4 6 ∷ tok kind.Identifier 7 12 ∷ [])
unfolding tokens_on_literals
words = lexes refl

-- each word of the list, in its order
keywords-all : Lexes (codes "as async bool borrow char constructor enum error-context export f32 f64 flags from func future import include interface list map option own package record resource result s16 s32 s64 s8 static stream string tuple type u16 u32 u64 u8 use variant with world") (tok (kind.Keyword kw.As) 0 2 ∷ tok (kind.Keyword kw.Async) 3 8 ∷ tok (kind.Keyword kw.Bool) 9 13 ∷ tok (kind.Keyword kw.Borrow) 14 20 ∷ tok (kind.Keyword kw.Char) 21 25 ∷ tok (kind.Keyword kw.Constructor) 26 37 ∷ tok (kind.Keyword kw.Enum) 38 42 ∷ tok (kind.Keyword kw.ErrorContext) 43 56 ∷ tok (kind.Keyword kw.Export) 57 63 ∷ tok (kind.Keyword kw.F32) 64 67 ∷ tok (kind.Keyword kw.F64) 68 71 ∷ tok (kind.Keyword kw.Flags) 72 77 ∷ tok (kind.Keyword kw.From) 78 82 ∷ tok (kind.Keyword kw.Func) 83 87 ∷ tok (kind.Keyword kw.Future) 88 94 ∷ tok (kind.Keyword kw.Import) 95 101 ∷ tok (kind.Keyword kw.Include) 102 109 ∷ tok (kind.Keyword kw.Interface) 110 119 ∷ tok (kind.Keyword kw.List) 120 124 ∷ tok (kind.Keyword kw.Map) 125 128 ∷ tok (kind.Keyword kw.Option) 129 135 ∷ tok (kind.Keyword kw.Own) 136 139 ∷ tok (kind.Keyword kw.Package) 140 147 ∷ tok (kind.Keyword kw.Record) 148 154 ∷ tok (kind.Keyword kw.Resource) 155 163 ∷ tok (kind.Keyword kw.Result) 164 170 ∷ tok (kind.Keyword kw.S16) 171 174 ∷ tok (kind.Keyword kw.S32) 175 178 ∷ tok (kind.Keyword kw.S64) 179 182 ∷ tok (kind.Keyword kw.S8) 183 185 ∷ tok (kind.Keyword kw.Static) 186 192 ∷ tok (kind.Keyword kw.Stream) 193 199 ∷ tok (kind.Keyword kw.String) 200 206 ∷ tok (kind.Keyword kw.Tuple) 207 212 ∷ tok (kind.Keyword kw.«Type») 213 217 ∷ tok (kind.Keyword kw.U16) 218 221 ∷ tok (kind.Keyword kw.U32) 222 225 ∷ tok (kind.Keyword kw.U64) 226 229 ∷ tok (kind.Keyword kw.U8) 230 232 ∷ tok (kind.Keyword kw.Use) 233 236 ∷ tok (kind.Keyword kw.Variant) 237 244 ∷ tok (kind.Keyword kw.With) 245 249 ∷ tok (kind.Keyword kw.World) 250 255 ∷ [])
unfolding tokens_on_literals
keywords-all = lexes refl

-- a keyword is spelled exactly so
keyword-exact : Lexes (codes "list LIST lists list-a %list") (tok (kind.Keyword kw.List) 0 4 ∷ tok kind.Identifier 5 9 ∷ tok kind.Identifier 10 15 ∷ tok kind.Identifier 16 22 ∷ tok kind.Identifier 23 28 ∷ [])
unfolding tokens_on_literals
keyword-exact = lexes refl

two-hyphenated : Lexes (codes "error-context error") (tok (kind.Keyword kw.ErrorContext) 0 13 ∷ tok kind.Identifier 14 19 ∷ [])
unfolding tokens_on_literals
two-hyphenated = lexes refl

-- a word that is no label is bad, as a whole
two-hyphens : Refused (codes "a a--b c") (error.BadChar (span 2 6))
unfolding tokens_on_literals
two-hyphens = refused refl refl

digit-word : Refused (codes "A-1") (error.BadChar (span 0 3))
unfolding tokens_on_literals
digit-word = refused refl refl

mixed-case : Refused (codes "getAll b") (error.BadChar (span 0 6))
unfolding tokens_on_literals
mixed-case = refused refl refl

hyphen-last : Refused (codes "a: b-") (error.BadChar (span 3 5))
unfolding tokens_on_literals
hyphen-last = refused refl refl

hyphen-first : Refused (codes "-a") (error.BadChar (span 0 1))
unfolding tokens_on_literals
hyphen-first = refused refl refl

word-255 : walked (replicate 255 97) ≡ Ok (tok kind.Identifier 0 255 ∷ [])
unfolding tokens_on_literals
word-255 = refl

word-256 : walked (replicate 256 97) ≡ Err (error.BadChar (span 0 256))
unfolding tokens_on_literals
word-256 = refl

-- ---- `%`

-- any word after it is an identifier
escaped : Lexes (codes "%use%a %error-context;") (tok kind.Identifier 0 4 ∷ tok kind.Identifier 4 6 ∷ tok kind.Identifier 7 21 ∷ tok (kind.Punctuation mark.Semicolon) 21 22 ∷ [])
unfolding tokens_on_literals
escaped = lexes refl

-- no letter follows
escape-alone : Refused (codes "% a") (error.BadChar (span 0 1))
unfolding tokens_on_literals
escape-alone = refused refl refl

escape-digit : Refused (codes "%1") (error.BadChar (span 0 1))
unfolding tokens_on_literals
escape-digit = refused refl refl

escape-end : Refused (codes "a%") (error.BadChar (span 1 2))
unfolding tokens_on_literals
escape-end = refused refl refl

-- with the word that is no label
escape-no-label : Refused (codes "%a--b c") (error.BadChar (span 0 5))
unfolding tokens_on_literals
escape-no-label = refused refl refl

-- ---- marks

marks : Lexes (codes ":;,.{}()<>=/@_->") (tok (kind.Punctuation mark.Colon) 0 1 ∷ tok (kind.Punctuation mark.Semicolon) 1 2 ∷ tok (kind.Punctuation mark.Comma) 2 3 ∷ tok (kind.Punctuation mark.Dot) 3 4 ∷ tok (kind.Punctuation mark.OpenBrace) 4 5 ∷ tok (kind.Punctuation mark.CloseBrace) 5 6 ∷ tok (kind.Punctuation mark.OpenParenthesis) 6 7 ∷ tok (kind.Punctuation mark.CloseParenthesis) 7 8 ∷ tok (kind.Punctuation mark.Less) 8 9 ∷ tok (kind.Punctuation mark.Greater) 9 10 ∷ tok (kind.Punctuation mark.Equals) 10 11 ∷ tok (kind.Punctuation mark.Slash) 11 12 ∷ tok (kind.Punctuation mark.At) 12 13 ∷ tok (kind.Punctuation mark.Underscore) 13 14 ∷ tok (kind.Punctuation mark.Arrow) 14 16 ∷ [])
unfolding tokens_on_literals
marks = lexes refl

-- a hyphen before > ends a word
arrow-after-word : Lexes (codes "a-b->c %d->e") (tok kind.Identifier 0 3 ∷ tok (kind.Punctuation mark.Arrow) 3 5 ∷ tok kind.Identifier 5 6 ∷ tok kind.Identifier 7 9 ∷ tok (kind.Punctuation mark.Arrow) 9 11 ∷ tok kind.Identifier 11 12 ∷ [])
unfolding tokens_on_literals
arrow-after-word = lexes refl

no-arrow : Lexes (codes ">->>") (tok (kind.Punctuation mark.Greater) 0 1 ∷ tok (kind.Punctuation mark.Arrow) 1 3 ∷ tok (kind.Punctuation mark.Greater) 3 4 ∷ [])
unfolding tokens_on_literals
no-arrow = lexes refl

hyphen : Refused (codes "a - > b") (error.BadChar (span 2 3))
unfolding tokens_on_literals
hyphen = refused refl refl

hyphen-after-word : Refused (codes "a--->b") (error.BadChar (span 0 3))
unfolding tokens_on_literals
hyphen-after-word = refused refl refl

slash : Lexes (codes "/a/ /") (tok (kind.Punctuation mark.Slash) 0 1 ∷ tok kind.Identifier 1 2 ∷ tok (kind.Punctuation mark.Slash) 2 3 ∷ tok (kind.Punctuation mark.Slash) 4 5 ∷ [])
unfolding tokens_on_literals
slash = lexes refl

-- ---- versions and integers

version : Lexes (codes "@1.2.3-rc.1+b-2;@0 @10.0.0") (tok kind.Version 0 15 ∷ tok (kind.Punctuation mark.Semicolon) 15 16 ∷ tok kind.Version 16 18 ∷ tok kind.Version 19 26 ∷ [])
unfolding tokens_on_literals
version = lexes refl

-- it does not end with a dot
version-dot : Lexes (codes "@1.0.{a} @1..") (tok kind.Version 0 4 ∷ tok (kind.Punctuation mark.Dot) 4 5 ∷ tok (kind.Punctuation mark.OpenBrace) 5 6 ∷ tok kind.Identifier 6 7 ∷ tok (kind.Punctuation mark.CloseBrace) 7 8 ∷ tok kind.Version 9 11 ∷ tok (kind.Punctuation mark.Dot) 11 12 ∷ tok (kind.Punctuation mark.Dot) 12 13 ∷ [])
unfolding tokens_on_literals
version-dot = lexes refl

-- a hyphen is of the version, before > too
version-hyphen : Lexes (codes "@1->") (tok kind.Version 0 3 ∷ tok (kind.Punctuation mark.Greater) 3 4 ∷ [])
unfolding tokens_on_literals
version-hyphen = lexes refl

version-underscore : Lexes (codes "@1.0_1") (tok kind.Version 0 4 ∷ tok (kind.Punctuation mark.Underscore) 4 5 ∷ tok kind.Integer 5 6 ∷ [])
unfolding tokens_on_literals
version-underscore = lexes refl

-- no digit follows
at : Lexes (codes "@since @ 1") (tok (kind.Punctuation mark.At) 0 1 ∷ tok kind.Identifier 1 6 ∷ tok (kind.Punctuation mark.At) 7 8 ∷ tok kind.Integer 9 10 ∷ [])
unfolding tokens_on_literals
at = lexes refl

integers : Lexes (codes "12a 007") (tok kind.Integer 0 2 ∷ tok kind.Identifier 2 3 ∷ tok kind.Integer 4 7 ∷ [])
unfolding tokens_on_literals
integers = lexes refl

-- ---- blanks and comments

blanks : Lexes (codes " " ++ 9 ∷ 10 ∷ 13 ∷ codes "a " ++ 9 ∷ 10 ∷ 13 ∷ []) (tok kind.Identifier 4 5 ∷ [])
unfolding tokens_on_literals
blanks = lexes refl

-- a newline ends it
line-comment : Lexes (codes "a // b /* c" ++ 10 ∷ codes "d //") (tok kind.Identifier 0 1 ∷ tok kind.Identifier 12 13 ∷ [])
unfolding tokens_on_literals
line-comment = lexes refl

-- a carriage return does not
line-comment-return : Lexes (codes "a // b" ++ 13 ∷ codes "c") (tok kind.Identifier 0 1 ∷ [])
unfolding tokens_on_literals
line-comment-return = lexes refl

nested-comment : Lexes (codes "a/* b /* c */ d */e/**/f") (tok kind.Identifier 0 1 ∷ tok kind.Identifier 18 19 ∷ tok kind.Identifier 23 24 ∷ [])
unfolding tokens_on_literals
nested-comment = lexes refl

-- a comment may have any text
comment-any : Lexes (codes "/* // " ++ 195 ∷ 169 ∷ codes " $ */a") (tok kind.Identifier 13 14 ∷ [])
unfolding tokens_on_literals
comment-any = lexes refl

-- from the outermost
open-comment : Refused (codes "a /* /* */ b") (error.OpenComment (span 2 12))
unfolding tokens_on_literals
open-comment = refused refl refl

open-comment-short : Refused (codes "/*/") (error.OpenComment (span 0 3))
unfolding tokens_on_literals
open-comment-short = refused refl refl

-- ---- bad characters, with all their bytes

dollar : Refused (codes "a: $ b") (error.BadChar (span 3 4))
unfolding tokens_on_literals
dollar = refused refl refl

two-bytes : Refused (195 ∷ 169 ∷ []) (error.BadChar (span 0 2))
unfolding tokens_on_literals
two-bytes = refused refl refl

no-break-space : Refused (codes "a" ++ 194 ∷ 160 ∷ codes "b") (error.BadChar (span 1 3))
unfolding tokens_on_literals
no-break-space = refused refl refl

byte-order-mark : Refused (239 ∷ 187 ∷ 191 ∷ codes "package") (error.BadChar (span 0 3))
unfolding tokens_on_literals
byte-order-mark = refused refl refl

four-bytes : Refused (codes "a " ++ 240 ∷ 159 ∷ 152 ∷ 128 ∷ []) (error.BadChar (span 2 6))
unfolding tokens_on_literals
four-bytes = refused refl refl

vertical-tab : Refused (11 ∷ []) (error.BadChar (span 0 1))
unfolding tokens_on_literals
vertical-tab = refused refl refl

form-feed : Refused (12 ∷ []) (error.BadChar (span 0 1))
unfolding tokens_on_literals
form-feed = refused refl refl

delete : Refused (127 ∷ []) (error.BadChar (span 0 1))
unfolding tokens_on_literals
delete = refused refl refl

-- ---- what follows

-- other tokens than those
one-word : Lexes (codes "a-b") (tok kind.Identifier 0 1 ∷ tok kind.Identifier 2 3 ∷ []) → ⊥
unfolding tokens_on_literals
one-word h = let e : tok kind.Identifier 0 3 ∷ [] ≡ tok kind.Identifier 0 1 ∷ tok kind.Identifier 2 3 ∷ [] = one_lexing (codes "a-b") _ _ (lexes refl) h in cc

no-tokens : (ts : List Token) → Lexes (codes "a--b") ts → ⊥
unfolding tokens_on_literals
no-tokens ts h = let b : IsBadAt (codes "a--b") (span 0 4) = spoilt (codes "a--b") (error.BadChar (span 0 4)) refl in bad_is_refused (codes "a--b") 0 4 b.0 ts b.1 b.2 h

-- a fault of the grammar is none of tokens
no-lex-fault : LexFault [] (error.Expected want.Identifier (span 0 0)) → ⊥
no-lex-fault h = h

-- ---- names and kinds

-- the word of each token: without `%`, and without the `@` of a version
names : map (λ (t : Lexeme). t.text) (lexemes (codes "%use@1.0.0 a;%b") (tok kind.Identifier 0 4 ∷ tok kind.Version 4 10 ∷ tok kind.Identifier 11 12 ∷ tok (kind.Punctuation mark.Semicolon) 12 13 ∷ tok kind.Identifier 13 15 ∷ [])) ≡ codes "use" ∷ codes "1.0.0" ∷ codes "a" ∷ codes ";" ∷ codes "b" ∷ []
names = refl

token-place : span_of (tok kind.Integer 3 5) ≡ span 3 5
token-place = refl

token-bytes : bytes_of (codes "a->b") (tok (kind.Punctuation mark.Arrow) 1 3) ≡ codes "->"
token-bytes = refl

-- past the end
token-no-bytes : bytes_of (codes "a->b") (tok kind.Identifier 3 5) ≡ []
token-no-bytes = refl

same-kinds : (same_kind kind.Identifier kind.Identifier ≡ true) × (same_kind (kind.Keyword kw.Use) (kind.Keyword kw.Use) ≡ true) × (same_kind (kind.Punctuation mark.Dot) (kind.Punctuation mark.Dot) ≡ true)
same-kinds = (refl, refl, refl)

other-kinds : (same_kind kind.Identifier kind.Version ≡ false) × (same_kind (kind.Keyword kw.U8) (kind.Keyword kw.U16) ≡ false) × (same_kind (kind.Punctuation mark.Less) (kind.Punctuation mark.Greater) ≡ false) × (same_kind (kind.Keyword kw.As) (kind.Punctuation mark.Arrow) ≡ false)
other-kinds = (refl, refl, refl, refl)

some-keyword : keyword_of (codes "error-context") ≡ Some kw.ErrorContext
unfolding tokens_on_literals
some-keyword = refl

no-keyword : keyword_of (codes "Use") ≡ None
unfolding tokens_on_literals
no-keyword = refl

-- ---- the length of a text

too-long : (more : List ℕ) → length more ≡ 1048577 → LexFault more error.Limit
unfolding limit
too-long more h = omega (arith, h)

long-enough : (text : List ℕ) → length text ≡ 1048576 → LexFault text error.Limit → ⊥
unfolding limit
long-enough text h f = let e : 1048576 < length text = f in omega (arith, h, e)
