use Rattle.std.proofs.Common.{◌≡◌, ◌≤◌, ◌<◌, inl, inr, ◌+◌, ℕ, max, fold, List, length, get_or, refl, sym, ap, subst, ◌∙◌, arith}
use Rattle.std.specs.Int.{next_multiple_of}
use Rattle.canonical_abi.specs.Guest.{IsAlignment}
use Rattle.canonical_abi.specs.Types.{record_type, field_count}
use Rattle.canonical_abi.specs.Layout.{size, align, field_extents}
use Rattle.canonical_abi.proofs.Layouts.AlignmentsAndSizes.{is-alignment}
use Rattle.tables.specs.Closed.{closed_type}
use Rattle.tables.specs.declared.tables.Primitive.TheVariants as primitive
use Rattle.tables.specs.declared.tables.Resolve.{Resolve}
use Rattle.tables.specs.declared.tables.ValType.{ValType}
use Rattle.tables.specs.declared.tables.ValType.TheVariants as val
use Rattle.values.specs.Members.{fields_of_types}
use Rattle.values.proofs.FieldsFromAPlace.{nth-type, count-types, align-next, end-last, align-last, fields_from, fields_end, fields-inside, fields-end}
use Rattle.values.proofs.TypesExtents.{fields-fit}
use Rattle.values.proofs.types.Types.extent_within.Goals as goal

-- a type stands inside the record
inside : (r : Resolve) (types : List ValType) (i end : ℕ) → i < length types → fields_end end (fields_from i (fields_of_types r types)) ≡ fields_end 0 (fields_of_types r types)
    → next_multiple_of end (align (closed_type r (get_or types i (val.Primitive primitive.Bool)))) + size (closed_type r (get_or types i (val.Primitive primitive.Bool))) ≤ size (record_type (fields_of_types r types))
inside r types i end low at =
    let t = closed_type r (get_or types i (val.Primitive primitive.Bool)) in
    let h = fields-inside (fields_of_types r types) i t end _ (nth-type r types i (val.Primitive primitive.Bool) low) at in
    omega (arith, h, fields-fit (fields_of_types r types))

pub returns-then-end-gt-MAX_RECORD-clause-none : goal.returns-then-end-gt-MAX_RECORD-clause-none
returns-then-end-gt-MAX_RECORD-clause-none c =
    let h = inside c.args.self.now c.args.types.now c.loop-index.index c.loop-index.end c.loop-index-test.true c.loop-index.invariant.0 in
    let g = rw (← c.align_of-member.ensures.value, ← c.next_multiple_of.ensures.value, ← c.size_of.ensures.value) at h in
    omega (arith, g, c.if-end-gt-MAX_RECORD.true)

pub loop-index-preserved : goal.loop-index-preserved
loop-index-preserved c =
    let r = c.args.self.now in
    let fs = fields_of_types r c.args.types.now in
    let t = closed_type r (get_or c.args.types.now c.loop-index.index (val.Primitive primitive.Bool)) in
    let nth = nth-type r c.args.types.now c.loop-index.index (val.Primitive primitive.Bool) c.loop-index-test.true in
    let place : c.next_multiple_of.result ≡ next_multiple_of c.loop-index.end (align t) = c.next_multiple_of.ensures.value ∙ ap (next_multiple_of c.loop-index.end) c.align_of-member.ensures.value in
    let greatest : c.max-align.result ≡ max c.loop-index.align (align t) = grind (arith, c.max-align.ensures, c.align_of-member.ensures.value) in
    let end : c.next_multiple_of.result + c.size_of.result ≡ next_multiple_of c.loop-index.end (align t) + size t = grind (arith, place, c.size_of.ensures.value) in (
      ap (λ (n : ℕ). fields_end n (fields_from (c.loop-index.index + 1) fs)) end
          ∙ (sym (fields-end fs c.loop-index.end c.loop-index.index t nth) ∙ c.loop-index.invariant.0),
      rw greatest (sym (align-next fs c.loop-index.index c.loop-index.align t nth) ∙ c.loop-index.invariant.1),
      omega (arith, greatest, c.loop-index.invariant.2),
      c.if-end-gt-MAX_RECORD.false,
    )

-- the end and the alignment after the last type
ended : (r : Resolve) (types : List ValType) (i end greatest : ℕ) → i ≡ length types → fields_end end (fields_from i (fields_of_types r types)) ≡ fields_end 0 (fields_of_types r types)
    → fold (λ n x. max n x.align) greatest (field_extents (fields_from i (fields_of_types r types))) ≡ align (record_type (fields_of_types r types))
    → (greatest ≡ align (record_type (fields_of_types r types))) × (next_multiple_of end greatest ≡ size (record_type (fields_of_types r types)))
ended r types i end greatest all at aligned =
    let fs = fields_of_types r types in
    let count : field_count fs ≡ i = count-types r types ∙ sym all in
    let same_end : end ≡ fields_end 0 fs = sym (end-last fs i end count) ∙ at in
    let same_align : greatest ≡ align (record_type fs) = sym (align-last fs i greatest count) ∙ aligned in
    (same_align, rw (same_end, same_align) refl)

-- a multiple of an alignment is near
near : (end alignment : ℕ) → IsAlignment alignment → end ≤ 16777216 → next_multiple_of end alignment < 18446744073709551616
near end alignment (inl e) l = subst (λ (a : ℕ). next_multiple_of end a < 18446744073709551616) (sym e) (omega (arith, l))
near end alignment (inr (inl e)) l = subst (λ (a : ℕ). next_multiple_of end a < 18446744073709551616) (sym e) (omega (arith, l))
near end alignment (inr (inr (inl e))) l = subst (λ (a : ℕ). next_multiple_of end a < 18446744073709551616) (sym e) (omega (arith, l))
near end alignment (inr (inr (inr e))) l = subst (λ (a : ℕ). next_multiple_of end a < 18446744073709551616) (sym e) (omega (arith, l))

pub next_multiple_of-size-requires-clause-fits : goal.next_multiple_of-size-requires-clause-fits
next_multiple_of-size-requires-clause-fits c =
    let h = ended c.args.self.now c.args.types.now c.loop-index.index c.loop-index.end c.loop-index.align (omega arith) c.loop-index.invariant.0 c.loop-index.invariant.1 in
    near c.loop-index.end c.loop-index.align (subst IsAlignment (sym h.0) (is-alignment (record_type (fields_of_types c.args.self.now c.args.types.now)))) c.loop-index.invariant.3

pub returns-then-size-gt-MAX_RECORD-clause-none : goal.returns-then-size-gt-MAX_RECORD-clause-none
returns-then-size-gt-MAX_RECORD-clause-none c =
    let h = ended c.args.self.now c.args.types.now c.loop-index.index c.loop-index.end c.loop-index.align (omega arith) c.loop-index.invariant.0 c.loop-index.invariant.1 in
    omega (arith, c.next_multiple_of-size.ensures.value, h.1, c.if-size-gt-MAX_RECORD.true)

pub returns-clause-size : goal.returns-clause-size
returns-clause-size c =
    let h = ended c.args.self.now c.args.types.now c.loop-index.index c.loop-index.end c.loop-index.align (omega arith) c.loop-index.invariant.0 c.loop-index.invariant.1 in
    c.next_multiple_of-size.ensures.value ∙ h.1

pub returns-clause-align : goal.returns-clause-align
returns-clause-align c =
    (ended c.args.self.now c.args.types.now c.loop-index.index c.loop-index.end c.loop-index.align (omega arith) c.loop-index.invariant.0 c.loop-index.invariant.1).0
