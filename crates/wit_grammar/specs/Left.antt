-- What is left of the tokens of a text.
use Rattle.std.specs.Prelude.{ℕ, ◌-◌, List, length, drop}
use Rattle.wit_tokens.specs.Tokens.{Lexeme, lexemes}
use Rattle.wit_grammar.specs.declared.tokens.Tokens.{Tokens}

-- the tokens from an index on, with the words that they spell
unfoldable pub tokens_from : Tokens → ℕ → List Lexeme
tokens_from t at = lexemes t.text.now (drop at t.list.now)

-- how many tokens stand from an index on
abbrev pub count_from : Tokens → ℕ → ℕ
count_from t at = length t.list.now - at

-- the length of the text
abbrev pub text_end : Tokens → ℕ
text_end t = length t.text.now
