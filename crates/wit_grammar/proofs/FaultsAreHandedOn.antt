-- A fault is handed on.
use Rattle.std.proofs.Common.{◌≡◌, ℕ, List, Option, Result, Ok, Err}
use Rattle.wit_tokens.specs.declared.token.Token.{Token}
use Rattle.wit_tokens.specs.Tokens.{Lexeme, optional_lexeme}
use Rattle.wit_tokens.specs.declared.error.TextError.{TextError}
use Rattle.wit_tokens.specs.declared.error.TextError.TheVariants as error
use Rattle.std.specs.Option.{option_map}
use Rattle.wit_tokens.specs.Syntax.{FileEntry}
use Rattle.wit_tokens.specs.View.{item_view}
use Rattle.wit_tokens.specs.declared.wit_syntax.ast.Item.{Item}
use Rattle.wit_grammar.specs.Faults.{Fails}

pub Fails-on : {Y V : Type 0} (e : TextError) (r : Result Y TextError) (s : Result V TextError) → (r ≡ Err e → s ≡ Err e) → Fails e r → Fails e s
Fails-on error.NoMemory r s h p = tt
Fails-on (error.BadChar t) r s h p = h p
Fails-on (error.OpenComment t) r s h p = h p
Fails-on (error.Expected x t) r s h p = h p
Fails-on (error.Unsupported x t) r s h p = h p
Fails-on (error.Depth t) r s h p = h p
Fails-on error.Limit r s h p = h p

-- what a token that may come next was
pub peeked : {E : Type 0} (text : List ℕ) (o p : Option Token) (r : Result (Option Lexeme × List Lexeme) E) (rest : List Lexeme) → o ≡ p → r ≡ Ok (optional_lexeme text o, rest) → r ≡ Ok (optional_lexeme text p, rest)
peeked text o p r rest same h = rw (← same) h

-- and what an item was
pub item_handed : {E : Type 0} (o p : Option Item) (r : Result (Option FileEntry × List Lexeme) E) (rest : List Lexeme) → o ≡ p → r ≡ Ok (option_map item_view o, rest) → r ≡ Ok (option_map item_view p, rest)
item_handed o p r rest same h = rw (← same) h
