-- A text ends in one part of a line.
use Rattle.std.proofs.Common.{◌≡◌, ◌+◌, ◌-◌, ◌<◌, ◌≤◌, ◌++◌, ◌∷◌, [], ℕ, List, length, drop, get_or, arith, sym, ap, ◌∙◌, inl, inr}
use Rattle.std.proofs.lemmas.Bool.{cases_lt}
use Rattle.std.proofs.lemmas.List.{get_or_append_left, get_or-append-add, length-append}
use Rattle.std.proofs.Math.Seq.{get_or-append_seam, drop-append_seam}
use Rattle.wit_hints.specs.Lines.{AreLinesAbove, EndsInLine, HasNoLineEnd}

-- a line end before the one part would stand in the other, were that longer
no_longer : (text above line upper part : List ℕ) → text ≡ above ++ line → AreLinesAbove above → text ≡ upper ++ part → HasNoLineEnd part
    → length part ≤ length line
no_longer text above line upper part whole ends other none =
    let total : length above + length line ≡ length upper + length part =
    sym (length-append above line) ∙ ap length (sym whole ∙ other) ∙ length-append upper part in
    elim (cases_lt (length line) (length part)) [
      | inr enough ↦ enough
      | inl longer ↦ elim ends [
        | inl nothing ↦
            let zero : length above ≡ 0 = ap length nothing in
            absurd (omega arith)
        | inr (lines, is) ↦
            let long : length above ≡ length lines + 1 = ap length is ∙ length-append lines (10 ∷ []) in
            let at : length upper + (length lines - length upper) ≡ length lines = omega arith in
            let inside : length lines - length upper < length part = omega arith in
            let there : get_or text (length lines) 0 ≡ 10 =
            ap (λ t. get_or t (length lines) 0) whole ∙ get_or_append_left above line 0 (length lines) (omega arith)
            ∙ ap (λ t. get_or t (length lines) 0) is ∙ get_or-append_seam lines 10 [] 0 in
            let here : get_or text (length lines) 0 ≡ get_or part (length lines - length upper) 0 =
            ap (λ t. get_or t (length lines) 0) other ∙ ap (λ n. get_or (upper ++ part) n 0) (sym at)
            ∙ get_or-append-add upper part (length lines - length upper) 0 in
            absurd (none (length lines - length upper) inside (sym here ∙ there))
      ]
    ]

pub one_line : (text line part : List ℕ) → EndsInLine text line → EndsInLine text part → line ≡ part
one_line text line part (none, (above, whole, ends)) (none', (upper, other, ends')) =
    let less = no_longer text above line upper part whole ends other none' in
    let more = no_longer text upper part above line other ends' whole none in
    let total : length above + length line ≡ length upper + length part =
    sym (length-append above line) ∙ ap length (sym whole ∙ other) ∙ length-append upper part in
    let same : length above ≡ length upper = omega arith in
    sym (drop-append_seam above line) ∙ ap (drop (length above)) (sym whole ∙ other) ∙ ap (λ n. drop n (upper ++ part)) same ∙ drop-append_seam upper part
