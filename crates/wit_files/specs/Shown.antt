-- WIT.md, "Lexical structure": the tokens of a text as they are shown.
use Rattle.std.specs.Prelude.{◌⊎◌, ℕ, List}
use Rattle.wit_tokens.specs.Lexing.{Lexes, LexFault}
use Rattle.wit_tokens.specs.declared.error.TextError.{TextError}
use Rattle.wit_tokens.specs.declared.error.TextError.TheVariants as error
use Rattle.wit_tokens.specs.declared.token.Token.{Token}

-- an error of a text, and no want of memory
abbrev pub IsFault : TextError → Type 0
IsFault error.NoMemory = ⊥
IsFault _ = Unit {0}

-- the tokens are all those of the text, unless it has a fault in them
abbrev pub AreShown : List ℕ → List Token → Type 0
AreShown text tokens = Lexes text tokens ⊎ ((e : TextError) × LexFault text e × IsFault e)
