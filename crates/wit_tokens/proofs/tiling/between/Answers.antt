use Rattle.std.proofs.Common.{◌≡◌, ℕ, ◌+◌, drop, sym, ap, subst, ◌∙◌}
use Rattle.wit_tokens.specs.Lexing.{blank_run}
use Rattle.wit_tokens.specs.Pieces.{piece_from, GoesOn}
use Rattle.wit_tokens.specs.declared.piece.Piece.{Piece}
use Rattle.wit_tokens.specs.declared.piece.PieceKind.TheVariants as piece
use Rattle.wit_tokens.proofs.TiledTexts.{comment-on, blanks-on}
use Rattle.wit_tokens.proofs.tiling.between.Goals as goal

pub returns-then-text-at-eq47-clause-goes_on : goal.returns-then-text-at-eq47-clause-goes_on
returns-then-text-at-eq47-clause-goes_on c =
    subst (λ (p : Piece). GoesOn c.args.text.now p) (sym c.piece_of.ensures) (comment-on c.args.text.now c.args.at c.args.len (c.requires.is))

pub returns-else-text-at-eq47-clause-goes_on : goal.returns-else-text-at-eq47-clause-goes_on
returns-else-text-at-eq47-clause-goes_on c =
    let is = c.piece_of-else-text-at-eq47.ensures ∙ ap (λ (n : ℕ). piece_from piece.Blank c.args.at n) c.blank_end-end.ensures.is in
    subst (λ (p : Piece). GoesOn c.args.text.now p) (sym is) (blanks-on c.args.text.now c.args.at c.args.len (c.requires.is))
