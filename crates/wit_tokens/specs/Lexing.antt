-- What stands at the front of a text, and a text as tokens and blanks in turn.
use Rattle.std.specs.Prelude.{◌≡◌, ℕ, zero, suc, ◌+◌, ◌-◌, ◌<◌, ◌≤◌, Bool, false, not, ◌&&◌, ◌||◌, ◌==◌, nat_lt, List, [], ◌∷◌, ◌++◌, length, take, drop, take_while, Option, Some, None, if◌then◌else◌}
use Rattle.atoms.specs.Label.{is_lower, is_upper, is_digit, is_label}
use Rattle.wit_tokens.specs.Keywords.{keyword_of}
use Rattle.wit_tokens.specs.declared.token.Keyword.{Keyword}
use Rattle.wit_tokens.specs.declared.token.Punctuation.{Punctuation}
use Rattle.wit_tokens.specs.declared.token.Punctuation.TheVariants as mark
use Rattle.wit_tokens.specs.declared.token.TokenKind.{TokenKind}
use Rattle.wit_tokens.specs.declared.token.TokenKind.TheVariants as kind
use Rattle.wit_tokens.specs.declared.token.Token.{Token}
use Rattle.wit_tokens.specs.declared.token.Span.{Span}
use Rattle.wit_tokens.specs.declared.error.TextError.{TextError}
use Rattle.wit_tokens.specs.declared.error.TextError.TheVariants as error
use Rattle.wit_tokens.specs.declared.lexer.Front.{Front}
use Rattle.wit_tokens.specs.declared.lexer.Front.TheVariants as front

-- an ASCII letter
abbrev pub is_letter : ℕ → Bool
is_letter c = is_lower c || is_upper c

-- space, tab, newline, carriage return
abbrev pub is_blank : ℕ → Bool
is_blank c = c == 32 || c == 9 || c == 10 || c == 13

-- the first byte is c
abbrev pub begins_with : ℕ → List ℕ → Bool
begins_with c [] = false
begins_with c (x ∷ xs) = x == c

-- the first two bytes are a and b
abbrev pub begins_pair : ℕ → ℕ → List ℕ → Bool
begins_pair a b [] = false
begins_pair a b (c ∷ []) = false
begins_pair a b (c ∷ d ∷ cs) = c == a && d == b

-- the first byte is an ASCII letter
abbrev pub begins_letter : List ℕ → Bool
begins_letter [] = false
begins_letter (c ∷ cs) = is_letter c

-- the first byte is an ASCII digit
abbrev pub begins_digit : List ℕ → Bool
begins_digit [] = false
begins_digit (c ∷ cs) = is_digit c

-- a dot counts only where more follows
abbrev pub dotted : ℕ → ℕ → ℕ
dotted c n = if c == 46 && n == 0 then 0 else suc n

-- a character of a version: a letter, a digit, `.`, `+` or `-`
abbrev pub is_in_version : ℕ → Bool
is_in_version c = is_letter c || is_digit c || c == 46 || c == 43 || c == 45

-- the length of the longest run of a version's characters that doesn't end with a dot
abbrev pub version_run : List ℕ → ℕ
version_run [] = 0
version_run (c ∷ cs) = if is_in_version c then dotted c (version_run cs) else 0

-- the length of the longest run of letters, digits and hyphens; a hyphen before `>` ends it
abbrev pub word_run : List ℕ → ℕ
word_run [] = 0
word_run (c ∷ cs) = if is_letter c || is_digit c || (c == 45 && not (begins_with 62 cs)) then suc (word_run cs) else 0

-- the length of the longest run of blanks
abbrev pub blank_run : List ℕ → ℕ
blank_run cs = length (take_while is_blank cs)

-- the length of the longest run of digits
abbrev pub digit_run : List ℕ → ℕ
digit_run cs = length (take_while is_digit cs)

-- the length of a line's rest
abbrev pub line_run : List ℕ → ℕ
line_run cs = length (take_while (λ c. not (c == 10)) cs)

-- this length and n more, if there is a length
abbrev pub plus : ℕ → Option ℕ → Option ℕ
plus n None = None
plus n (Some m) = Some (n + m)

-- how many bytes it takes to close this many open comments, if they are all closed
unfoldable pub comment_run : ℕ → List ℕ → Option ℕ
comment_run zero cs = Some 0
comment_run (suc level) [] = None
comment_run (suc level) (c ∷ []) = None
comment_run (suc level) (c ∷ d ∷ cs) =
    if c == 47 && d == 42 then plus 2 (comment_run (suc (suc level)) cs)
    else (if c == 42 && d == 47 then plus 2 (comment_run level cs) else plus 1 (comment_run (suc level) (d ∷ cs)))

-- the mark that this byte alone is, if it is one; `->`, `/` and `@` are told apart elsewhere
abbrev pub mark_of : ℕ → Option Punctuation
mark_of c =
    if c == 58 then Some mark.Colon else (if c == 59 then Some mark.Semicolon else (if c == 44 then Some mark.Comma else (if c == 46 then Some mark.Dot else
    (if c == 123 then Some mark.OpenBrace else (if c == 125 then Some mark.CloseBrace else (if c == 40 then Some mark.OpenParenthesis else (if c == 41 then Some mark.CloseParenthesis else
    (if c == 60 then Some mark.Less else (if c == 62 then Some mark.Greater else (if c == 61 then Some mark.Equals else (if c == 95 then Some mark.Underscore else None)))))))))))

-- how many bytes the character takes that this byte begins
abbrev pub char_len : ℕ → ℕ
char_len c = if nat_lt c 128 then 1 else (if nat_lt c 224 then 2 else (if nat_lt c 240 then 3 else 4))

-- a token of this kind and length at the front of a text
abbrev pub token : TokenKind → ℕ → Front
token k n = front.Token k n

-- a block comment from its `/` on, by the length after that `/`, or one that nothing closes
abbrev pub closed_comment : Option ℕ → Front
closed_comment None = front.OpenComment
closed_comment (Some n) = front.Blank (n + 2)

-- what begins with `/` and goes on so: a comment to the end of its line, a block comment, or a mark
unfoldable pub slash_front : List ℕ → Front
slash_front cs =
    if begins_with 47 cs then front.Blank (line_run cs + 1)
    else (if begins_with 42 cs then closed_comment (comment_run 1 (drop 1 cs)) else token (kind.Punctuation mark.Slash) 1)

-- the kind of a word that is this keyword, or an identifier if it is none
abbrev pub keyword_kind : Option Keyword → TokenKind
keyword_kind None = kind.Identifier
keyword_kind (Some k) = kind.Keyword k

-- a word of the list of keywords is a keyword, any other an identifier
abbrev pub word_kind : List ℕ → TokenKind
word_kind word = keyword_kind (keyword_of word)

-- what begins with a letter: a word, if its longest run is a label
unfoldable pub word_front : List ℕ → Front
word_front cs = let word = take (word_run cs) cs in if is_label word then token (word_kind word) (word_run cs) else front.Bad (word_run cs)

-- what begins with `%` and goes on so: an identifier whatever its word, if the word is a label
unfoldable pub escape_front : List ℕ → Front
escape_front cs =
    if begins_letter cs then (if is_label (take (word_run cs) cs) then token kind.Identifier (word_run cs + 1) else front.Bad (word_run cs + 1))
    else front.Bad 1

-- what begins with `@` and goes on so: a version if a digit comes next, else a mark
unfoldable pub at_front : List ℕ → Front
at_front cs = if begins_digit cs then token kind.Version (version_run cs + 1) else token (kind.Punctuation mark.At) 1

-- what begins with the byte c: this mark, or a character that is no token
abbrev pub mark_front : Option Punctuation → ℕ → Front
mark_front None c = front.Bad (char_len c)
mark_front (Some p) c = token (kind.Punctuation p) 1

-- what begins with the byte c and goes on so: `->`, a mark of one byte, or a character that is no token
unfoldable pub punctuation_front : ℕ → List ℕ → Front
punctuation_front c cs = if c == 45 then (if begins_with 62 cs then token (kind.Punctuation mark.Arrow) 2 else front.Bad 1) else mark_front (mark_of c) c

-- What stands at the front of a text: a blank, or a token, the longest at its place, or neither.
unfoldable pub front_of : List ℕ → Front
front_of [] = front.Blank 0
front_of (c ∷ cs) =
    if is_blank c then front.Blank 1
    else (if is_letter c then word_front (c ∷ cs)
    else (if is_digit c then token kind.Integer (digit_run (c ∷ cs))
    else (if c == 47 then slash_front cs
    else (if c == 37 then escape_front cs
    else (if c == 64 then at_front cs
    else punctuation_front c cs)))))

-- a piece has at least one byte and ends within the text
abbrev pub Takes : Front → ℕ → Type 0
Takes (front.Blank n) len = (0 < n) × (n ≤ len)
Takes (front.Token k n) len = (0 < n) × (n ≤ len)
Takes (front.Bad n) len = n ≤ len + 4
Takes front.OpenComment len = Unit {0}

-- the token of this kind and this length from place `at` on, in bytes
abbrev pub token_from : TokenKind → ℕ → ℕ → Token
token_from k at n = record { kind = k; start = at; end = at + n }

-- Up to this place the text is these tokens, and blanks between them.
pub data Upto (text : List ℕ) : ℕ → List Token → Type 0 where
  begin : Upto text 0 []
  blank : (at n : ℕ) (ts : List Token) → Upto text at ts → front_of (drop at text) ≡ front.Blank n → Upto text (at + n) ts
  next : (at n : ℕ) (k : TokenKind) (ts : List Token) → Upto text at ts → front_of (drop at text) ≡ front.Token k n → Upto text (at + n) (ts ++ token_from k at n ∷ [])

-- the bytes that a text may have
unfoldable pub limit : ℕ
limit = 1048576

-- the text is these tokens, and blanks between them
abbrev pub Lexes : List ℕ → List Token → Type 0
Lexes text ts = Upto text (length text) ts

-- Tokens and blanks stand before this place, and there begins a character or a word that is no token.
abbrev pub IsBadAt : List ℕ → Span → Type 0
IsBadAt text s = (ts : List Token) × Upto text s.start ts × (front_of (drop s.start text) ≡ front.Bad (s.end - s.start)) × (s.start ≤ s.end)

-- Tokens and blanks stand before this place, and there begins a comment that nothing closes.
abbrev pub IsOpenAt : List ℕ → Span → Type 0
IsOpenAt text s = (ts : List Token) × Upto text s.start ts × (front_of (drop s.start text) ≡ front.OpenComment) × (s.end ≡ length text)

-- why a text has no tokens
abbrev pub LexFault : List ℕ → TextError → Type 0
LexFault text (error.BadChar s) = (length text ≤ limit) × IsBadAt text s
LexFault text (error.OpenComment s) = (length text ≤ limit) × IsOpenAt text s
LexFault text error.NoMemory = Unit {0}
LexFault text error.Limit = limit < length text
LexFault text _ = ⊥
