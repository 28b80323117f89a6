use Rattle.std.proofs.Common.{◌≡◌, inl, inr, suc, ◌+◌, ◌-◌, ◌*◌, ◌<◌, get_or, sym, ap, ◌∙◌, arith}
use Rattle.std.specs.Int.{w64, to_le_bytes}
use Rattle.std.proofs.lemmas.Grind.{common_steps}
use Rattle.std.proofs.lemmas.Bool.{cases_lt}
use Rattle.ranges.specs.Columns.{case_in}
use Rattle.ranges.proofs.VariantElementsByCase.{element-fits, pair-nodes}
use Rattle.ranges.proofs.ColumnsLaidOverCaps.{laid-before, laid-within, laid-after}
use Rattle.ranges.proofs.cases.fill_two.Goals.{then-case-eq0, else-case-eq0}
use Rattle.ranges.proofs.cases.fill_two.Goals as goal

pub loop-i-preserved : goal.loop-i-preserved
loop-i-preserved c =
    let inv = c.loop-i.invariant in
    let i = c.loop-i.i in
    let column = c.args.column.now in
    let rows = column.rows in
    let step = c.args.elements.step in
    let own = case_in column c.args.source.now (c.args.elements.from + i * step) in
    let index : c.args.elements.from + (i * step + column.at) ≡ c.args.elements.from + i * step + column.at = omega arith in
    let is : c.case_at-case.result ≡ own = c.case_at-case.ensures ∙ ap (λ x. get_or c.args.source.now x 0) index in
    let put = c.put_word.ensures in
    let low : c.loop-i.bad + c.from-bad.result ≡ 0 → c.case_at-case.result < 2 = λ none. grind (arith, common_steps, none) in
    let more : i + 1 ≡ suc i = omega arith in (
      grind (arith, common_steps, inv.0),
      grind (arith, common_steps, inv.1),
      λ none e h. elim (cases_lt e i) [
        | inl b ↦ inv.2 (omega (arith, none)) e b
        | inr b ↦ (let same : e ≡ i = omega (arith, b, h) in rw same (omega (arith, is, low none)))
      ],
      λ none e j h g. elim (cases_lt e i) [
        | inl b ↦ put.below (e * step + j) (omega (arith, element-fits e i step b, g)) ∙ inv.3 (omega (arith, none)) e j b g
        | inr b ↦
            let same : e ≡ i = omega (arith, b, h) in
            rw same (elim (cases_lt j column.at) [
              | inl first ↦ put.below (i * step + j) (omega (arith, first)) ∙ inv.5 (i * step + j) (omega arith) ∙ sym (laid-before column own j _ first)
              | inr high ↦ elim (cases_lt j (column.at + rows.size)) [
                | inl within ↦
                    let k = j - column.at in
                    let there : i * step + column.at + k ≡ i * step + j = omega (arith, high) in
                    let eight : k < 8 = omega (arith, within, high, c.requires.wide, c.requires.short) in
                    let word : get_or (to_le_bytes w64 c.if-case-eq0.word) k 0 ≡ get_or rows.caps (own * 16 + k) 0 = elim c.if-case-eq0.branch [
                      | then-case-eq0 w ↦ ap (λ n. get_or (to_le_bytes w64 n) k 0) w.word-is ∙ c.word_of-first.ensures k eight ∙ ap (λ x. get_or rows.caps x 0) (omega (arith, is, w.if-case-eq0.true))
                      | else-case-eq0 w ↦ ap (λ n. get_or (to_le_bytes w64 n) k 0) w.word-is ∙ c.word_of-second.ensures k eight
                          ∙ ap (λ x. get_or rows.caps x 0) (omega (arith, is, low none, w.if-case-eq0.false))
                    ] in
                    let cap = put.put k (omega (arith, within, high, c.requires.wide)) in
                    rw there at cap ∙ word ∙ sym (laid-within column own j _ high within)
                | inr past ↦ put.above (i * step + j) (omega (arith, past, c.requires.wide)) ∙ inv.5 (i * step + j) (omega arith) ∙ sym (laid-after column own j _ past)
              ]
            ])
      ],
      λ none.
          let t = inv.4 (omega (arith, none)) in
          let visited : get_or rows.nodes c.case_at-case.result 0 ≡ get_or rows.nodes own 0 + 0 = ap (λ n. get_or rows.nodes n 0) is ∙ omega arith in
          rw more (pair-nodes c.case_at-case.result (low none) rows.nodes i t.0 c.loop-i.seconds _ _ t.1 t.2 visited),
      λ k h. put.above k (omega (arith, h, c.requires.within)) ∙ inv.5 k (omega (arith, h)),
    )
