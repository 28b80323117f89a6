use Rattle.std.proofs.Common.{◌≡◌, inl, inr, suc, ◌+◌, ◌*◌, ◌%◌, ◌<◌, get_or, ap, ◌∙◌, arith}
use Rattle.std.proofs.lemmas.Grind.{common_steps}
use Rattle.std.proofs.lemmas.Bool.{cases_lt}
use Rattle.ranges.specs.Columns.{case_in}
use Rattle.ranges.proofs.VariantElementsByCase.{element-fits, pair-nodes}
use Rattle.ranges.proofs.VariantsMerged.{merged-byte}
use Rattle.ranges.proofs.WordsUnderMasks.{byte}
use Rattle.ranges.proofs.words.merge_two.Goals.{then-case-eq0, else-case-eq0}
use Rattle.ranges.proofs.words.merge_two.Goals as goal

pub loop-i-preserved : goal.loop-i-preserved
loop-i-preserved c =
    let inv = c.loop-i.invariant in
    let i = c.loop-i.i in
    let column = c.args.column.now in
    let rows = column.rows in
    let new = c.args.new.now in
    let word = c.word_at-word.result in
    let own = case_in column new (0 + i * 8) in
    let place : i * 8 + 0 ≡ 0 + i * 8 + column.at = omega (arith, c.requires.front) in
    let is : word % 256 ≡ own = c.word_at-word.ensures 0 (omega arith) ∙ ap (λ x. get_or new x 0) place in
    let put = c.put_word.ensures in
    let low : c.loop-i.bad + c.from-bad.result ≡ 0 → word % 256 < 2 = λ none. grind (arith, common_steps, none) in
    let more : i + 1 ≡ suc i = omega arith in (
      grind (arith, common_steps, inv.0),
      grind (arith, common_steps, inv.1),
      λ none e h. elim (cases_lt e i) [
        | inl b ↦ inv.2 (omega (arith, none)) e b
        | inr b ↦ (let same : e ≡ i = omega (arith, b, h) in rw same (omega (arith, is, low none)))
      ],
      λ none e j h g. elim (cases_lt e i) [
        | inl b ↦ put.below (e * 8 + j) (omega (arith, element-fits e i 8 b, g)) ∙ inv.3 (omega (arith, none)) e j b g
        | inr b ↦
            let same : e ≡ i = omega (arith, b, h) in
            let mask : byte c.if-case-eq0.mask j ≡ get_or rows.caps (own * 16 + j) 0 = elim c.if-case-eq0.branch [
              | then-case-eq0 w ↦ ap (λ n. byte n j) w.mask-is ∙ c.word_of-first.ensures j g ∙ ap (λ x. get_or rows.caps x 0) (omega (arith, is, w.if-case-eq0.true))
              | else-case-eq0 w ↦ ap (λ n. byte n j) w.mask-is ∙ c.word_of-second.ensures j g
                  ∙ ap (λ x. get_or rows.caps x 0) (omega (arith, is, low none, w.if-case-eq0.false))
            ] in
            rw same (merged-byte rows c.requires.masks (own * 16) (omega (arith, is, low none, c.requires.two)) new c.args.old.now c.put_word.new.caps (i * 8) j word c.word_at.result c.if-case-eq0.mask c.choose.result g
            (c.word_at-word.ensures j g) (c.word_at.ensures j g) mask (c.choose.ensures j g) (put.put j g))
      ],
      λ none.
          let t = inv.4 (omega (arith, none)) in
          let visited : get_or rows.nodes (word % 256) 0 ≡ get_or rows.nodes own 0 + 0 = ap (λ n. get_or rows.nodes n 0) is ∙ omega arith in
          rw more (pair-nodes (word % 256) (low none) rows.nodes i t.0 c.loop-i.seconds _ _ t.1 t.2 visited),
    )
