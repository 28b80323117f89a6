use Rattle.std.proofs.Common.{◌+◌, List, ℕ, subst, arith, sym, ap, ◌∙◌}
use Rattle.std.specs.Prelude.{All}
use Rattle.wit_tokens.specs.Lexing.{begin, blank, next, front_of}
use Rattle.std.proofs.lemmas.List.{take_rest, length_push}
use Rattle.wit_tokens.specs.Tokens.{IsNamed}
use Rattle.wit_tokens.proofs.BlankRuns.{over_blanks}
use Rattle.wit_tokens.proofs.IdentifiersAreLabels.{named_upto}
use Rattle.wit_tokens.proofs.lexer.lex.Goals as goal

pub loop-at-init : goal.loop-at-init
loop-at-init c = record { so_far = rw c.in_ok-tokens.ensures.items begin; few = rw c.in_ok-tokens.ensures.items (omega arith); within = omega arith }

pub loop-at-preserved-in-Some : goal.loop-at-preserved-in-Some
loop-at-preserved-in-Some c =
    let text = c.as_bytes-bytes.result.now in
    let piece = c.in-Some.piece in
    let end = c.loop-at.at + piece.len in
    let ends = rw (take_rest text c.loop-at.at) at c.in-Some.ensures.within in
    let first = next c.loop-at.at piece.len piece.kind c.loop-at.tokens.items c.loop-at.invariant.so_far (sym (c.in-Some.ensures.is ∙ ap front_of (take_rest text c.loop-at.at))) in
    record {
      so_far = rw (c.blank_end-at.ensures.is, c.in_ok-push.ensures.items, c.token_from.ensures) (over_blanks text end _ first);
      few = rw (c.in_ok-push.ensures.items) (omega (arith, c.loop-at.invariant.few, ends.0, length_push c.loop-at.tokens.items c.token_from.result));
      within = c.blank_end-at.ensures.within;
    }

pub loop-at-preserved-in-Blank : goal.loop-at-preserved-in-Blank
loop-at-preserved-in-Blank c =
    let text = c.as_bytes-bytes.result.now in
    let end = c.loop-at.at + c.in-Blank.len in
    let first = blank c.loop-at.at c.in-Blank.len c.loop-at.tokens.items c.loop-at.invariant.so_far (sym c.in-Blank.ensures.is) in
    record {
      so_far = rw c.blank_end-at-in-Blank.ensures.is (over_blanks text end c.loop-at.tokens.items first);
      few = omega (arith, c.loop-at.invariant.few);
      within = c.blank_end-at-in-Blank.ensures.within;
    }

pub loop-at-preserved : goal.loop-at-preserved
loop-at-preserved c = record {
  so_far = rw (c.in_ok-push-in-Token.ensures.items, c.token_from-in-Token.ensures) (next c.loop-at.at c.in-Token.len c.in-Token.kind c.loop-at.tokens.items c.loop-at.invariant.so_far (sym c.in-Token.ensures.is));
  few = rw c.in_ok-push-in-Token.ensures.items (omega (arith, c.loop-at.invariant.few, c.in-Token.ensures.within.0, length_push c.loop-at.tokens.items c.token_from-in-Token.result));
  within = omega (arith, c.in-Token.ensures.within.1);
}

pub returns-clause-named : goal.returns-clause-named
returns-clause-named c =
    let named = named_upto c.as_bytes-bytes.result.now c.loop-at.at c.loop-at.tokens.items c.loop-at.invariant.so_far c.loop-at.invariant.within in
    subst (λ (text : List ℕ). All (IsNamed text) c.loop-at.tokens.items) c.as_bytes-bytes.ensures.value named
