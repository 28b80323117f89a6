use Rattle.std.proofs.Common.{◌≡◌, inl, inr, ℕ, ◌+◌, ◌*◌, sym, ap, ◌∙◌, subst, arith}
use Rattle.std.proofs.lemmas.Bool.{cases_lt}
use Rattle.std.proofs.lemmas.List.{get_or-set_same, get_or-set_other, length-replicate, length-set}
use Rattle.canonical_abi.specs.Types.{ClosedType, variant_cases}
use Rattle.canonical_abi.specs.Layout.{size}
use Rattle.tables.specs.Closed.{closed_type}
use Rattle.ranges.specs.Bytewise.{IsBytewise, HasRows}
use Rattle.ranges.specs.Plan.{IsRow}
use Rattle.ranges.proofs.CapsOfFields.{zeros}
use Rattle.ranges.proofs.CapsOfCases.{row-stays, rows-bytewise, rows-told}
use Rattle.ranges.proofs.rows.rows_of.Goals as goal

pub loop-case-init : goal.loop-case-init
loop-case-init c = (λ i h. zeros 256 i, λ n h. absurd (omega (arith, h)), length-replicate {A = ℕ} 16 0)

pub loop-case-preserved : goal.loop-case-preserved
loop-case-preserved c =
    let cs = variant_cases (closed_type c.args.table.now c.args.ty) in
    let inv = c.loop-case.invariant in
    let i = c.loop-case.case in
    let more = c.in_ok-nodes.ensures in
    let next : (i + 1) * 16 ≡ i * 16 + 16 = omega arith in (
      rw next more.blank,
      λ n h. elim (cases_lt n i) [
        | inl b ↦ row-stays cs n c.loop-case.caps c.fill_case.new.caps _ _ (λ j k. more.below j (omega (arith, k, b))) (sym (get_or-set_other c.loop-case.nodes i n c.in_ok-nodes.field-0 0 (λ e. absurd (omega (arith, e, b))))) (inv.1 n b)
        | inr b ↦
            let same : n ≡ i = omega (arith, b, h) in
            rw same (subst (IsRow cs i c.fill_case.new.caps) (sym (get_or-set_same c.loop-case.nodes i c.in_ok-nodes.field-0 0 (omega (arith, inv.2)))) more.row)
      ],
      length-set c.loop-case.nodes i c.in_ok-nodes.field-0 ∙ inv.2,
    )

pub returns-clause-bytewise : goal.returns-clause-bytewise
returns-clause-bytewise c =
    let T = closed_type c.args.table.now c.args.ty in
    let cs = variant_cases T in
    subst IsBytewise c.requires.variant (rows-bytewise cs c.loop-case.caps c.loop-case.nodes (λ n h. c.loop-case.invariant.1 n (omega (arith, h, c.requires.counted))))

pub returns-clause-rows : goal.returns-clause-rows
returns-clause-rows c =
    let T = closed_type c.args.table.now c.args.ty in
    let cs = variant_cases T in
    let count = c.requires.counted in
    let P : ClosedType → Type 0 = λ t. HasRows t c.size_of-size.result c.args.count c.loop-case.caps c.loop-case.nodes in
    subst P c.requires.variant (rw count at (rows-told cs c.loop-case.caps c.loop-case.nodes (λ n h. c.loop-case.invariant.1 n (omega (arith, h, count))) (omega (arith, count))
    c.size_of-size.result (c.size_of-size.ensures.value ∙ ap size (sym c.requires.variant)) (omega arith)))
