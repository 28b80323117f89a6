-- What is answered where a token isn't allowed. `end` is the length of the text.
use Rattle.std.specs.Prelude.{◌≡◌, ℕ, Bool, List, [], ◌∷◌, Option, Some, None, Result, Ok, Err}
use Rattle.wit_tokens.specs.declared.token.Span.{Span}
use Rattle.wit_tokens.specs.declared.token.TokenKind.{TokenKind}
use Rattle.wit_tokens.specs.declared.error.Expected.{Expected}
use Rattle.wit_tokens.specs.declared.error.Feature.{Feature}
use Rattle.wit_tokens.specs.declared.error.TextError.{TextError}
use Rattle.wit_tokens.specs.declared.error.TextError.TheVariants as error
use Rattle.wit_tokens.specs.Tokens.{Lexeme, same_kind, span_of}

-- the span of the token met, and an empty one at the end
abbrev pub met : ℕ → List Lexeme → Span
met end [] = record { start = end; end = end }
met end (t ∷ ts) = span_of t.token

-- the fault of a text that has no such token here, at the span of the token met
abbrev pub wanted : ℕ → Expected → List Lexeme → TextError
wanted end e ts = error.Expected e (met end ts)

-- the token is of this kind
abbrev pub is : TokenKind → Lexeme → Bool
is k t = same_kind t.token.kind k

-- a feature, or what is wanted
abbrev pub feature_or : Option Feature → Expected → Span → TextError
feature_or None e at = error.Expected e at
feature_or (Some f) e at = error.Unsupported f at

-- the feature that the token met begins, if any
abbrev pub met_feature : (Lexeme → Option Feature) → List Lexeme → Option Feature
met_feature f [] = None
met_feature f (t ∷ ts) = f t

-- the feature where the token met begins one, else what is wanted
abbrev pub unless_feature : ℕ → (Lexeme → Option Feature) → Expected → List Lexeme → TextError
unless_feature end f e ts = feature_or (met_feature f ts) e (met end ts)

-- A fault of the grammar stands at the token met.
abbrev pub StandsAt : ℕ → List Lexeme → TextError → Type 0
StandsAt end ts (error.Expected e s) = s ≡ met end ts
StandsAt end ts (error.Unsupported f s) = s ≡ met end ts
StandsAt end ts (error.Depth s) = s ≡ met end ts
StandsAt end ts _ = ⊥

-- Reading gives this fault too, unless memory ran out.
abbrev pub Fails : {Y : Type 0} → TextError → Result Y TextError → Type 0
Fails error.NoMemory read = Unit {0}
Fails e read = read ≡ Err e

-- What a function answers, seen by view, is what reading gives, unless memory ran out.
abbrev pub AnswersRead : {X Y : Type 0} → (X → Y) → Result X TextError → Result Y TextError → Type 0
AnswersRead view (Ok x) read = read ≡ Ok (view x)
AnswersRead view (Err e) read = Fails e read
