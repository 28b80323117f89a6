-- What it means that a text is read as a tree, or is refused.
use Rattle.std.specs.Prelude.{◌≡◌, ◌≤◌, ℕ, suc, List, length}
use Rattle.wit_tokens.specs.declared.token.Span.{Span}
use Rattle.wit_tokens.specs.declared.token.Token.{Token}
use Rattle.wit_tokens.specs.declared.error.TextError.{TextError}
use Rattle.wit_tokens.specs.declared.error.TextError.TheVariants as error
use Rattle.wit_tokens.specs.Lexing.{limit, Lexes, LexFault}
use Rattle.wit_tokens.specs.Tokens.{Lexeme, lexemes}
use Rattle.wit_tokens.specs.Syntax.{File}
use Rattle.wit_grammar.specs.Lookahead.{NoneBegins}
use Rattle.wit_grammar.specs.Grammar.{nesting, file}

-- The text's tokens spell this file, types within the limit of nesting, and it is not too long.
pub record IsRead (text : List ℕ) (f : File) : Type 0 where
  pub tokens : List Token
  pub short : length text ≤ limit
  pub lexed : Lexes text tokens
  pub spelt : (file (length text) nesting).spells (lexemes text tokens) f

-- the tokens spell this file, however deep its types nest
abbrev pub IsFile : ℕ → List Lexeme → File → Type 0
IsFile end ts f = (n : ℕ) × (file end (suc n)).spells ts f

-- the fault is a type that nests deeper than 64
abbrev pub IsDepth : TextError → Type 0
IsDepth e = (s : Span) × (e ≡ error.Depth s)

-- No file that is spelled so begins with the text's tokens up to the one met, where this fault is. It is the first
-- fault of the grammar.
pub record GrammarFault (text : List ℕ) (spells : List Lexeme → File → Type 0) (e : TextError) : Type 0 where
  pub tokens : List Token
  pub short : length text ≤ limit
  pub lexed : Lexes text tokens
  pub first : (file (length text) nesting).fails (lexemes text tokens) e
  pub none : NoneBegins (length text) spells (lexemes text tokens) e

-- Why a text is refused. With 32 and 33 no file begins so, however deep its types nest; with 34 none within the limit.
abbrev pub FaultyText : List ℕ → TextError → Type 0
FaultyText text (error.BadChar s) = LexFault text (error.BadChar s)
FaultyText text (error.OpenComment s) = LexFault text (error.OpenComment s)
FaultyText text error.Limit = LexFault text error.Limit
FaultyText text error.NoMemory = Unit {0}
FaultyText text (error.Expected e s) = GrammarFault text (IsFile (length text)) (error.Expected e s)
FaultyText text (error.Unsupported f s) = GrammarFault text (IsFile (length text)) (error.Unsupported f s)
FaultyText text (error.Depth s) = GrammarFault text (file (length text) nesting).spells (error.Depth s)
