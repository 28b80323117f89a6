use Rattle.std.proofs.Common.{◌≡◌, ◌≤◌, ℕ, List, length, sym, ap, subst, ◌∙◌, arith}
use Rattle.wit_tokens.specs.Lexing.{Upto}
use Rattle.wit_tokens.specs.Pieces.{pieces_text, tokens_in, none}
use Rattle.wit_tokens.proofs.TiledTexts.{tokens-begin, whole-text, tile-push, tokens-so-far}
use Rattle.wit_tokens.proofs.tiling.pieces.Goals as goal

pub loop-at-init : goal.loop-at-init
loop-at-init c = record {
  within = omega arith;
  tile = rw c.in_ok-list.ensures.items none;
  tokens = λ good. rw c.in_ok-list.ensures.items (tokens-begin c.as_bytes-bytes.result.now);
}

pub loop-at-preserved : goal.loop-at-preserved
loop-at-preserved c =
    let text = c.as_bytes-bytes.result.now in
    let p = c.piece_at-piece.result in
    let start = c.piece_at-piece.ensures.start in
    record {
      within = c.piece_at-piece.ensures.last;
      tile = rw c.in_ok-push.ensures.items (tile-push c.loop-at.list.items p c.loop-at.at c.loop-at.invariant.tile start c.piece_at-piece.ensures.first);
      tokens = rw c.in_ok-push.ensures.items (tokens-so-far text c.loop-at.list.items p c.piece_at-piece.ensures.goes_on (λ good. subst (λ (n : ℕ). Upto text n (tokens_in c.loop-at.list.items)) (sym start) (c.loop-at.invariant.tokens good)));
    }

pub returns-clause-lossless : goal.returns-clause-lossless
returns-clause-lossless c =
    let text = c.as_bytes-bytes.result.now in
    let long : length text ≤ c.loop-at.at = omega (arith, c.loop-at-test.false, c.as_bytes-bytes.ensures.len) in
    subst (λ (all : List ℕ). pieces_text all c.loop-at.list.items ≡ all) c.as_bytes-bytes.ensures.value (whole-text text c.loop-at.list.items c.loop-at.at c.loop-at.invariant.tile long)
