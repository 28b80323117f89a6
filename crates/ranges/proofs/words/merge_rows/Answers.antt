use Rattle.std.proofs.Common.{◌≡◌, inl, inr, suc, ◌+◌, ◌*◌, ◌%◌, ◌<◌, get_or, ap, ◌∙◌, arith}
use Rattle.std.proofs.lemmas.Grind.{common_steps}
use Rattle.std.proofs.lemmas.Bool.{cases_lt, le-leb}
use Rattle.std.proofs.Math.Nat.{mod-eq_of_lt}
use Rattle.ranges.specs.Columns.{case_in}
use Rattle.ranges.proofs.VariantElementsByCase.{element-fits}
use Rattle.ranges.proofs.VariantsMerged.{merged-words}
use Rattle.ranges.proofs.words.merge_rows.Goals as goal

pub loop-i-preserved : goal.loop-i-preserved
loop-i-preserved c =
    let inv = c.loop-i.invariant in
    let r = c.requires in
    let i = c.loop-i.i in
    let column = c.args.column.now in
    let rows = column.rows in
    let new = c.args.new.now in
    let width = c.args.run.width in
    let n = case_in column new (0 + i * width) in
    let case = c.case_at-case.result in
    let place : i * width ≡ 0 + i * width + column.at = omega (arith, r.front) in
    let is : case ≡ n = c.case_at-case.ensures ∙ ap (λ x. get_or new x 0) place in
    let first = c.merge_word.ensures in
    let second = c.merge_word-in-loop-i.ensures in
    let known : c.loop-i.bad + c.from-bad.result ≡ 0 → n < rows.cases = λ z. elim (cases_lt n rows.cases) [
      | inl h ↦ h
      | inr g ↦ (
          let one = le-leb rows.cases case (omega (arith, is, g)) in
          let b = c.from-bad.ensures in
          absurd (omega (arith, rw one at b, z))
          )
    ] in
    let of : c.from-seen.result ≡ get_or rows.nodes (case % 16) 0 = c.from-seen.ensures in
    let whole : c.loop-i.bad + c.from-bad.result ≡ 0 → case % 16 ≡ n = λ z. ap (λ x. x % 16) is ∙ mod-eq_of_lt (omega (arith, known z, r.few_cases)) in (
      grind (arith, common_steps, inv.0),
      λ z e h. elim (cases_lt e i) [
        | inl b ↦ inv.1 (omega (arith, z)) e b
        | inr b ↦ let same : e ≡ i = omega (arith, b, h) in rw same (known z)
      ],
      λ z e j h g. elim (cases_lt e i) [
        | inl b ↦
            let low : e * width + j < i * width = omega (arith, element-fits e i width b, g) in
            second.below (e * width + j) (omega (arith, low)) ∙ first.below (e * width + j) low ∙ inv.2 (omega (arith, z)) e j b g
        | inr b ↦
            let same : e ≡ i = omega (arith, b, h) in
            let row : case % 16 * 16 ≡ n * 16 = ap (λ x. x * 16) (whole z) in
            let byte = merged-words rows (case % 16 * 16) width r.long r.short new c.args.old.now c.merge_word.new.buffer c.merge_word-in-loop-i.new.buffer (i * width) j g
            (first.put r.masks (omega (arith, row, known z))) (second.put r.masks (omega (arith, row, known z, r.short, r.long))) second.below in
            rw same (rw row at byte)
      ],
      grind (arith, common_steps, inv.3, of),
      λ z.
          let next : c.from-seen.result ≡ get_or rows.nodes n 0 = of ∙ ap (λ x. get_or rows.nodes x 0) (whole z) in
          let more : i + 1 ≡ suc i = omega arith in
          rw more (omega (arith, inv.4 (omega (arith, z)), next)),
    )
