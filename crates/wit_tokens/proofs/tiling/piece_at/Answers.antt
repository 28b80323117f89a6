use Rattle.std.proofs.Common.{◌≡◌, sym, subst}
use Rattle.wit_tokens.specs.Pieces.{GoesOn}
use Rattle.wit_tokens.specs.declared.piece.Piece.{Piece}
use Rattle.wit_tokens.proofs.TiledTexts.{token-on}
use Rattle.wit_tokens.proofs.tiling.piece_at.Goals as goal

pub returns-in-Token-clause-goes_on : goal.returns-in-Token-clause-goes_on
returns-in-Token-clause-goes_on c =
    subst (λ (p : Piece). GoesOn c.args.text.now p) (sym c.piece_of.ensures) (token-on c.args.text.now c.in-Token.kind c.args.at c.in-Token.len (sym c.in-Token.ensures.is))
