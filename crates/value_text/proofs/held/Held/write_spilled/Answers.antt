use Rattle.std.proofs.Common.{◌≡◌, ◌+◌, ◌≤◌, [], get_or, length, Ok, Err, sym, ap, ◌∙◌, subst, arith, rules}
use Rattle.std.specs.Int.{next_multiple_of}
use Rattle.canonical_abi.specs.Labelled.{closed, closed_members}
use Rattle.canonical_abi.specs.Layout.{size, align}
use Rattle.canonical_abi.specs.Memory.{Holds}
use Rattle.lift_lower.proofs.PlacesOfFields.{end_before, end-next}
use Rattle.tables.proofs.ErasesToClosed.{erases}
use Rattle.tables.specs.Labelled.{labelled_types, labelled_val, labelled_members}
use Rattle.tables.specs.Tables.{is_type}
use Rattle.tables.specs.declared.tables.Primitive.TheVariants as primitive
use Rattle.tables.specs.declared.tables.ValType.TheVariants as val
use Rattle.value_json.proofs.LabelledTypesRowByRow.{all-at as every}
use Rattle.value_text.specs.Function.{json_of, members_json}
use Rattle.value_text.proofs.Carried.{known-below, at-or, member-json}
use Rattle.value_text.proofs.ItemsInTurn.{item-next, item-long, item-end}
use Rattle.value_text.proofs.Spilled.{nth-member, member-held, member-inside, held-many}
use Rattle.value_text.proofs.held.Held.write_spilled.Goals as goal

pub align_of-requires : goal.align_of-requires
align_of-requires c =
    let ds = c.args.self.now.types.now.definitions in
    let ts = c.args.types.now in
    known-below ds (get_or ts c.loop-index.index (val.Primitive primitive.Bool)) (every (is_type ds) ts c.loop-index.index (val.Primitive primitive.Bool) c.loop-index-test.true c.requires.types)

pub size_of-place-requires : goal.size_of-place-requires
size_of-place-requires c =
    let ds = c.args.self.now.types.now.definitions in
    let ts = c.args.types.now in
    known-below ds (get_or ts c.loop-index.index (val.Primitive primitive.Bool)) (every (is_type ds) ts c.loop-index.index (val.Primitive primitive.Bool) c.loop-index-test.true c.requires.types)

pub next_multiple_of-place-requires-clause-fits : goal.next_multiple_of-place-requires-clause-fits
next_multiple_of-place-requires-clause-fits c =
    let r = c.args.self.now.types.now in
    let rows = labelled_types r in
    let ts = c.args.types.now in
    let i = c.loop-index.index in
    let ty = get_or ts i (val.Primitive primitive.Bool) in
    let at = at-or ts i (val.Primitive primitive.Bool) c.loop-index-test.true in
    let fs = closed_members (labelled_members rows ts) in
    let inside = member-inside rows ts i ty at in
    let placed : next_multiple_of c.loop-index.place c.align_of.result ≡ next_multiple_of (end_before 0 i fs) (align (closed (labelled_val rows ty))) =
    ap (λ n. next_multiple_of n c.align_of.result) c.loop-index.invariant.placed ∙ ap (next_multiple_of (end_before 0 i fs)) (c.align_of.ensures.value ∙ ap align (sym (erases r ty))) in
    omega (arith, inside, placed, c.requires.fits, c.requires.short)

pub overflow_add-from : goal.overflow_add-from
overflow_add-from c =
    let r = c.args.self.now.types.now in
    let rows = labelled_types r in
    let ts = c.args.types.now in
    let i = c.loop-index.index in
    let ty = get_or ts i (val.Primitive primitive.Bool) in
    let at = at-or ts i (val.Primitive primitive.Bool) c.loop-index-test.true in
    let fs = closed_members (labelled_members rows ts) in
    let inside = member-inside rows ts i ty at in
    let placed : next_multiple_of c.loop-index.place c.align_of.result ≡ next_multiple_of (end_before 0 i fs) (align (closed (labelled_val rows ty))) =
    ap (λ n. next_multiple_of n c.align_of.result) c.loop-index.invariant.placed ∙ ap (next_multiple_of (end_before 0 i fs)) (c.align_of.ensures.value ∙ ap align (sym (erases r ty))) in
    omega (arith, inside, placed, c.next_multiple_of-place.ensures.value, c.requires.fits, c.requires.short)

pub write_item-requires-clause-fits : goal.write_item-requires-clause-fits
write_item-requires-clause-fits c =
    let r = c.args.self.now.types.now in
    let rows = labelled_types r in
    let ts = c.args.types.now in
    let i = c.loop-index.index in
    let ty = get_or ts i (val.Primitive primitive.Bool) in
    let at = at-or ts i (val.Primitive primitive.Bool) c.loop-index-test.true in
    let fs = closed_members (labelled_members rows ts) in
    let inside = member-inside rows ts i ty at in
    let placed : next_multiple_of c.loop-index.place c.align_of.result ≡ next_multiple_of (end_before 0 i fs) (align (closed (labelled_val rows ty))) =
    ap (λ n. next_multiple_of n c.align_of.result) c.loop-index.invariant.placed ∙ ap (next_multiple_of (end_before 0 i fs)) (c.align_of.ensures.value ∙ ap align (sym (erases r ty))) in
    omega (arith, inside, placed, c.next_multiple_of-place.ensures.value, c.requires.fits)

pub write_item-requires-clause-holds : goal.write_item-requires-clause-holds
write_item-requires-clause-holds c =
    let r = c.args.self.now.types.now in
    let rows = labelled_types r in
    let ts = c.args.types.now in
    let i = c.loop-index.index in
    let ty = get_or ts i (val.Primitive primitive.Bool) in
    let at = at-or ts i (val.Primitive primitive.Bool) c.loop-index-test.true in
    let fs = closed_members (labelled_members rows ts) in
    let inside = member-inside rows ts i ty at in
    let placed : next_multiple_of c.loop-index.place c.align_of.result ≡ next_multiple_of (end_before 0 i fs) (align (closed (labelled_val rows ty))) =
    ap (λ n. next_multiple_of n c.align_of.result) c.loop-index.invariant.placed ∙ ap (next_multiple_of (end_before 0 i fs)) (c.align_of.ensures.value ∙ ap align (sym (erases r ty))) in
    let here = ap (λ n. c.args.from + n) (sym (c.next_multiple_of-place.ensures.value ∙ placed)) in
    let m = c.args.self.now.memory.now in
    let (vs, each) = c.requires.holds in
    let (v, holds, at_v) = member-held rows ts m c.args.from 0 vs i ty at each in
    (v, subst (λ a. Holds (closed (labelled_val rows ty)) m a v) here holds)

pub returns-in_err-end-2 : goal.returns-in_err-end-2
returns-in_err-end-2 c = λ vs each.
    let r = c.args.self.now.types.now in
    let rows = labelled_types r in
    let ts = c.args.types.now in
    let i = c.loop-index.index in
    let ty = get_or ts i (val.Primitive primitive.Bool) in
    let at = at-or ts i (val.Primitive primitive.Bool) c.loop-index-test.true in
    let fs = closed_members (labelled_members rows ts) in
    let inside = member-inside rows ts i ty at in
    let placed : next_multiple_of c.loop-index.place c.align_of.result ≡ next_multiple_of (end_before 0 i fs) (align (closed (labelled_val rows ty))) =
    ap (λ n. next_multiple_of n c.align_of.result) c.loop-index.invariant.placed ∙ ap (next_multiple_of (end_before 0 i fs)) (c.align_of.ensures.value ∙ ap align (sym (erases r ty))) in
    let here = ap (λ n. c.args.from + n) (sym (c.next_multiple_of-place.ensures.value ∙ placed)) in
    let m = c.args.self.now.memory.now in
    let js = members_json (labelled_members rows ts) vs in
    let (v, holds, at_v) = member-held rows ts m c.args.from 0 vs i ty at each in
    let held = subst (λ a. Holds (closed (labelled_val rows ty)) m a v) here holds in
    let is = member-json rows ts vs i ty v at at_v in
    let passed = item-next c.args.self.now.limit c.args.room.now 0 js {E = Unit {0}} i (json_of (labelled_val rows ty) v) c.loop-index.room c.loop-index.end [] (Err tt) is (c.loop-index.invariant.front vs each) (c.in_err-end-2.ensures v held) in
    let long = item-long c.args.self.now.limit c.args.room.now 0 js (i + 1) passed in
    search (rules, long)

pub overflow_add-place : goal.overflow_add-place
overflow_add-place c =
    let r = c.args.self.now.types.now in
    let rows = labelled_types r in
    let ts = c.args.types.now in
    let i = c.loop-index.index in
    let ty = get_or ts i (val.Primitive primitive.Bool) in
    let at = at-or ts i (val.Primitive primitive.Bool) c.loop-index-test.true in
    let fs = closed_members (labelled_members rows ts) in
    let inside = member-inside rows ts i ty at in
    let placed : next_multiple_of c.loop-index.place c.align_of.result ≡ next_multiple_of (end_before 0 i fs) (align (closed (labelled_val rows ty))) =
    ap (λ n. next_multiple_of n c.align_of.result) c.loop-index.invariant.placed ∙ ap (next_multiple_of (end_before 0 i fs)) (c.align_of.ensures.value ∙ ap align (sym (erases r ty))) in
    omega (arith, inside, placed, c.next_multiple_of-place.ensures.value, c.size_of-place.ensures.value, ap size (erases r ty), c.requires.fits, c.requires.short)

pub loop-index-preserved : goal.loop-index-preserved
loop-index-preserved c =
    let r = c.args.self.now.types.now in
    let rows = labelled_types r in
    let ts = c.args.types.now in
    let i = c.loop-index.index in
    let ty = get_or ts i (val.Primitive primitive.Bool) in
    let at = at-or ts i (val.Primitive primitive.Bool) c.loop-index-test.true in
    let fs = closed_members (labelled_members rows ts) in
    let inside = member-inside rows ts i ty at in
    let placed : next_multiple_of c.loop-index.place c.align_of.result ≡ next_multiple_of (end_before 0 i fs) (align (closed (labelled_val rows ty))) =
    ap (λ n. next_multiple_of n c.align_of.result) c.loop-index.invariant.placed ∙ ap (next_multiple_of (end_before 0 i fs)) (c.align_of.ensures.value ∙ ap align (sym (erases r ty))) in
    let here = ap (λ n. c.args.from + n) (sym (c.next_multiple_of-place.ensures.value ∙ placed)) in
    let m = c.args.self.now.memory.now in
    let (vs0, each0) = c.requires.holds in
    let (v0, holds0, _) = member-held rows ts m c.args.from 0 vs0 i ty at each0 in
    let held0 = subst (λ a. Holds (closed (labelled_val rows ty)) m a v0) here holds0 in
    let next = end-next 0 i fs (closed (labelled_val rows ty)) (nth-member rows ts i ty at) in record {
      placed = omega (arith, next, placed, c.next_multiple_of-place.ensures.value, c.size_of-place.ensures.value, ap size (erases r ty));
      front = λ vs each.
          let js = members_json (labelled_members rows ts) vs in
          let (v, holds, at_v) = member-held rows ts m c.args.from 0 vs i ty at each in
          let held = subst (λ a. Holds (closed (labelled_val rows ty)) m a v) here holds in
          let is = member-json rows ts vs i ty v at at_v in
          (item-next c.args.self.now.limit c.args.room.now 0 js {E = Unit {0}} i (json_of (labelled_val rows ty) v) c.loop-index.room c.loop-index.end c.write_item.new.room (Ok c.in_ok-end-2.end) is (c.loop-index.invariant.front vs each)
          (c.in_ok-end-2.ensures v held)).0;
      few = (c.in_ok-end-2.ensures v0 held0).1;
    }

pub returns : goal.returns
returns c = λ vs each.
    let rows = labelled_types c.args.self.now.types.now in
    let ts = c.args.types.now in
    let js = members_json (labelled_members rows ts) vs in
    let many = held-many rows ts c.args.self.now.memory.now c.args.from 0 vs each in
    let all : length js ≤ c.loop-index.index = omega (arith, many, c.loop-index-test.false) in
    item-end c.args.self.now.limit c.args.room.now 0 js c.loop-index.index c.loop-index.room c.loop-index.end c.put-2.new.room c.put-2.result all (c.loop-index.invariant.front vs each) c.put-2.ensures
