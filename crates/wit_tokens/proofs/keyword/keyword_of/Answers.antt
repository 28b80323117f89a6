use Rattle.std.proofs.Common.{◌≡◌, None, ap, sym, ◌∙◌}
use Rattle.std.proofs.lemmas.Bool.Decides.{Decides-eqb}
use Rattle.std.proofs.lemmas.Slice.Eq.{slice_eq-Decides}
use Rattle.wit_tokens.specs.Keywords.{spelling}
use Rattle.wit_tokens.proofs.KeywordsBySpelling.{spelled, too_long, no_keyword}
use Rattle.wit_tokens.proofs.keyword.keyword_of.Goals as goal

pub returns-then-word-gt-LONGEST : goal.returns-then-word-gt-LONGEST
returns-then-word-gt-LONGEST c = no_keyword c.args.word.now None (λ k w. absurd (too_long c.args.word.now k w c.if-word-gt-LONGEST.true)) (λ k found w. cc)

pub returns-in-Some : goal.returns-in-Some
returns-in-Some c =
    let same = (slice_eq-Decides Decides-eqb _ _ _ c.eq.ensures).0 c.if-eq.true in
    sym (spelled c.args.word.now c.in-Some.keyword (same ∙ c.as_bytes.ensures.value ∙ c.spelling.ensures))

pub returns-in_default : goal.returns-in_default
returns-in_default c = no_keyword c.args.word.now c.candidate.result c.candidate.ensures (λ k found word.
    let same : c.in-Some.keyword ≡ k = cc in
    let spelled = word ∙ ap spelling (sym same) ∙ sym c.spelling.ensures ∙ sym c.as_bytes.ensures.value in
    let equal = (slice_eq-Decides Decides-eqb _ _ _ c.eq.ensures).1 spelled in
    cc)

pub returns-in_default-2 : goal.returns-in_default-2
returns-in_default-2 c = no_keyword c.args.word.now c.candidate.result c.candidate.ensures (λ k found word. cc)
