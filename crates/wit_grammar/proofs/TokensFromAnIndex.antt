-- What stands from an index on among the tokens of a text.
use Rattle.std.proofs.Common.{◌≡◌, ℕ, ◌+◌, ◌<◌, ◌≤◌, List, [], ◌∷◌, length, map, get_or, ap, drop_of_length-le}
use Rattle.std.proofs.lemmas.List.{drop_more}
use Rattle.wit_tokens.specs.declared.token.Token.{Token}
use Rattle.wit_tokens.specs.Tokens.{lexeme}
use Rattle.wit_grammar.specs.declared.tokens.Tokens.{Tokens}
use Rattle.wit_grammar.specs.Left.{tokens_from}

pub one_more : (t : Tokens) (at : ℕ) (d : Token) → at < length t.list.now → tokens_from t at ≡ lexeme t.text.now (get_or t.list.now at d) ∷ tokens_from t (at + 1)
unfolding tokens_from
one_more t at d lt = ap (λ (ts : List Token). map (lexeme t.text.now) ts) (drop_more t.list.now at d lt)

pub none_left : (t : Tokens) (at : ℕ) → length t.list.now ≤ at → tokens_from t at ≡ []
unfolding tokens_from
none_left t at le = ap (λ (ts : List Token). map (lexeme t.text.now) ts) (drop_of_length-le t.list.now le)
