-- How marks are written.
use Rattle.std.specs.Prelude.{ℕ, List, [], ◌∷◌}
use Rattle.wit_tokens.specs.declared.token.Punctuation.{Punctuation}
use Rattle.wit_tokens.specs.declared.token.Punctuation.TheVariants as mark

-- the bytes of a mark in a text
abbrev pub mark_text : Punctuation → List ℕ
mark_text mark.Arrow = 45 ∷ 62 ∷ []
mark_text mark.Colon = 58 ∷ []
mark_text mark.Semicolon = 59 ∷ []
mark_text mark.Comma = 44 ∷ []
mark_text mark.Dot = 46 ∷ []
mark_text mark.OpenBrace = 123 ∷ []
mark_text mark.CloseBrace = 125 ∷ []
mark_text mark.OpenParenthesis = 40 ∷ []
mark_text mark.CloseParenthesis = 41 ∷ []
mark_text mark.Less = 60 ∷ []
mark_text mark.Greater = 62 ∷ []
mark_text mark.Equals = 61 ∷ []
mark_text mark.Slash = 47 ∷ []
mark_text mark.At = 64 ∷ []
mark_text mark.Underscore = 95 ∷ []
