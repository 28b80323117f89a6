-- Pieces of two texts that are the same.
use Rattle.std.proofs.Common.{◌≡◌, List, ℕ, ap, ◌∙◌}
use Rattle.wit_tokens.specs.declared.piece.Piece.{Piece}
use Rattle.wit_tokens.specs.declared.piece.PieceKind.{PieceKind}
use Rattle.wit_tokens.specs.Pieces.{piece_text}
use Rattle.wit_format.specs.Solids.{Solid, solid_of}

-- two pieces of one kind and the same bytes are the same beside their places
pub same_solid : (text out : List ℕ) (p q : Piece) → p.kind ≡ q.kind → piece_text text p ≡ piece_text out q → solid_of text p ≡ solid_of out q
same_solid text out p q kind bytes =
    let of_kind : PieceKind → Solid = λ k. record { kind = k; bytes = piece_text text p } in
    let of_bytes : List ℕ → Solid = λ bs. record { kind = q.kind; bytes = bs } in
    ap of_kind kind ∙ ap of_bytes bytes
