use Rattle.std.proofs.Common.{◌≡◌, inl, inr, suc, ◌+◌, ◌-◌, ◌*◌, ◌%◌, ◌<◌, get_or, sym, ap, ◌∙◌, arith}
use Rattle.std.proofs.lemmas.Grind.{common_steps}
use Rattle.std.proofs.lemmas.Bool.{cases_lt, le-leb}
use Rattle.std.proofs.Math.Nat.{mod-eq_of_lt}
use Rattle.ranges.specs.Columns.{case_in}
use Rattle.ranges.proofs.VariantElementsByCase.{element-fits}
use Rattle.ranges.proofs.ColumnsLaidOverCaps.{laid-before, laid-within, laid-after}
use Rattle.ranges.proofs.cases.fill_rows.Goals as goal

pub loop-i-preserved : goal.loop-i-preserved
loop-i-preserved c =
    let inv = c.loop-i.invariant in
    let i = c.loop-i.i in
    let column = c.args.column.now in
    let rows = column.rows in
    let step = c.args.elements.step in
    let n = case_in column c.args.source.now (c.args.elements.from + i * step) in
    let index : c.args.elements.from + (i * step + column.at) ≡ c.args.elements.from + i * step + column.at = omega arith in
    let case : c.from-case.result ≡ n = c.from-case.ensures ∙ ap (λ x. get_or c.args.source.now x 0) index in
    let of : c.from-seen.result ≡ get_or rows.nodes (c.from-case.result % 16) 0 = c.from-seen.ensures in
    let put = c.put_row.ensures in
    let known : c.loop-i.bad + c.from-bad.result ≡ 0 → n < rows.cases = λ z. elim (cases_lt n rows.cases) [
      | inl h ↦ h
      | inr g ↦ (
          let one = le-leb rows.cases c.from-case.result (omega (arith, case, g)) in
          let b = c.from-bad.ensures in
          absurd (omega (arith, rw one at b, z))
          )
    ] in (
      grind (arith, common_steps, inv.0),
      λ z e h. elim (cases_lt e i) [
        | inl b ↦ inv.1 (omega (arith, z)) e b
        | inr b ↦ let same : e ≡ i = omega (arith, b, h) in rw same (known z)
      ],
      λ e j h g. elim (cases_lt e i) [
        | inl b ↦ put.below (e * step + j) (omega (arith, element-fits e i step b, g)) ∙ inv.2 e j b g
        | inr b ↦
            let same : e ≡ i = omega (arith, b, h) in
            rw same (elim (cases_lt j column.at) [
              | inl low ↦ put.below (i * step + j) (omega (arith, low)) ∙ inv.3 (i * step + j) (omega arith) ∙ sym (laid-before column (n % 16) j _ low)
              | inr high ↦ elim (cases_lt j (column.at + rows.size)) [
                | inl low ↦
                    let there : i * step + column.at + (j - column.at) ≡ i * step + j = omega (arith, high) in
                    let cap = put.put (j - column.at) (omega (arith, low, high, c.requires.wide)) in
                    rw there at cap ∙ ap (λ x. get_or rows.caps (x % 16 * 16 + (j - column.at)) 0) case ∙ sym (laid-within column (n % 16) j _ high low)
                | inr past ↦
                    put.above (i * step + j) (omega (arith, past, c.requires.wide)) ∙ inv.3 (i * step + j) (omega arith) ∙ sym (laid-after column (n % 16) j _ past)
              ]
            ])
      ],
      λ k h. put.above k (omega (arith, h, c.requires.within)) ∙ inv.3 k (omega (arith, h)),
      grind (arith, common_steps, inv.4, of),
      λ z.
          let whole : n % 16 ≡ n = mod-eq_of_lt (omega (arith, known z, c.requires.few_cases)) in
          let next : c.from-seen.result ≡ get_or rows.nodes n 0 = of ∙ ap (λ x. get_or rows.nodes (x % 16) 0) case ∙ ap (λ x. get_or rows.nodes x 0) whole in
          let more : i + 1 ≡ suc i = omega arith in
          rw more (omega (arith, inv.5 (omega (arith, z)), next)),
    )
