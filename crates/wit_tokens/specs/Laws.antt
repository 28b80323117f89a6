-- What holds of tokens, whatever the text.
use Rattle.std.specs.Prelude.{◌≡◌, ℕ, List}
use Rattle.wit_tokens.specs.declared.token.Span.{Span}
use Rattle.wit_tokens.specs.declared.token.Token.{Token}
use Rattle.wit_tokens.specs.Lexing.{Lexes, IsBadAt, IsOpenAt}

-- a text has one list of tokens at most
abbrev pub OneLexing : List ℕ → Type 0
OneLexing text = (ts us : List Token) → Lexes text ts → Lexes text us → ts ≡ us

-- a text with a character or a word that is no token has no list of tokens
abbrev pub BadIsRefused : List ℕ → Type 0
BadIsRefused text = (s : Span) (ts : List Token) → IsBadAt text s → Lexes text ts → ⊥

-- a text with a block comment that nothing closes has no list of tokens
abbrev pub OpenIsRefused : List ℕ → Type 0
OpenIsRefused text = (s : Span) (ts : List Token) → IsOpenAt text s → Lexes text ts → ⊥
