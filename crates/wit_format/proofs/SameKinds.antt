-- Kinds of pieces are equal by `==` exactly if they are one.
use Rattle.std.proofs.Common.{◌≡◌, Bool, true, refl, ap}
use Rattle.std.proofs.lemmas.Bool.{eqb-true, false≢true}
use denote.Enum.Bare.{tag_one}
use Rattle.wit_tokens.specs.declared.token.TokenKind.{TokenKind}
use Rattle.wit_tokens.specs.declared.token.TokenKind.TheVariants as token
use Rattle.wit_tokens.specs.declared.piece.PieceKind.{PieceKind}
use Rattle.wit_tokens.specs.declared.piece.PieceKind.TheVariants as piece
use Rattle.wit_tokens.specs.contracts.token.Keyword as keyword_type
use Rattle.wit_tokens.specs.contracts.token.Punctuation as punctuation_type
use Rattle.wit_tokens.specs.contracts.token.TokenKindPartialEq.TheImpl.{eq-value as same_token_value}
use Rattle.wit_tokens.specs.contracts.piece.PieceKindPartialEq.TheImpl.{eq-value as same_kind_value}

token_one : (a b : TokenKind) → same_token_value.it a b ≡ true → a ≡ b
token_one token.Identifier token.Identifier h = refl
token_one (token.Keyword a) (token.Keyword b) h = ap (λ k. token.Keyword k) (tag_one keyword_type.the_type tt a b (eqb-true _ _ h))
token_one (token.Punctuation a) (token.Punctuation b) h = ap (λ p. token.Punctuation p) (tag_one punctuation_type.the_type tt a b (eqb-true _ _ h))
token_one token.Version token.Version h = refl
token_one token.Integer token.Integer h = refl
token_one _ _ h = absurd (false≢true h)

pub kind_one : (a b : PieceKind) → same_kind_value.it a b ≡ true → a ≡ b
kind_one (piece.Token a) (piece.Token b) h = ap (λ k. piece.Token k) (token_one a b h)
kind_one piece.Blank piece.Blank h = refl
kind_one piece.Comment piece.Comment h = refl
kind_one piece.BadWord piece.BadWord h = refl
kind_one piece.BadCharacter piece.BadCharacter h = refl
kind_one piece.OpenComment piece.OpenComment h = refl
kind_one _ _ h = absurd (false≢true h)
