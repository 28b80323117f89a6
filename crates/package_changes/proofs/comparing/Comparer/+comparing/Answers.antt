use Rattle.std.proofs.Common.{◌≡◌, ◌+◌, ◌<◌, length, get_or, Option, Some, None, refl, ap, sym, subst, ◌∙◌, arith, rules}
use Rattle.std.specs.Option.{option_map}
use Rattle.std.proofs.lemmas.List.{length-map, get_or-map}
use Rattle.canonical_abi.specs.Labelled.{labelled_prim, labelled_string}
use Rattle.tables.specs.Closed.{prim_of}
use Rattle.tables.specs.Labelled.{labelled_type, labelled_types}
use Rattle.package_changes.specs.Alike.{parts_likeness}
use Rattle.package_changes.specs.Comparing.{part_types}
use Rattle.package_changes.specs.Likeness.{likeness}
use Rattle.package_changes.proofs.LeavesApart.{node-prim, node-string}
use Rattle.package_changes.proofs.NodesTold.{whole-told, apart-told}
use Rattle.package_changes.proofs.PartsAreTypes.{parts-are}
use Rattle.package_changes.proofs.PartsInTurn.{LeavesRest, rest-steps, older-end, newer-end}
use Rattle.package_changes.proofs.comparing.Comparer.+comparing.Goals as goal

pub compare-returns-in-Primitive-newer-clause-ok : goal.compare-returns-in-Primitive-newer-clause-ok
compare-returns-in-Primitive-newer-clause-ok t c =
    let r = c.args.self.now.old.table.now in
    let end = c.in-Node.ensures in
    let p = prim_of c.in-Primitive-newer.field-0 in
    c.of_leaves.ensures ∙ node-prim p (labelled_types r) c.in-Node.kind.now end.1.own ∙ ap (λ x. likeness x (labelled_prim p)) (sym (end.0 ∙ end.1.is))
    ∙ ap (likeness (labelled_type r c.args.old)) (sym c.in-Primitive-newer.ensures)

pub compare-returns-in-String-newer-clause-ok : goal.compare-returns-in-String-newer-clause-ok
compare-returns-in-String-newer-clause-ok t c =
    let r = c.args.self.now.old.table.now in
    let end = c.in-Node.ensures in
    c.of_leaves-in-String-newer.ensures ∙ node-string (labelled_types r) c.in-Node.kind.now end.1.own ∙ ap (λ x. likeness x labelled_string) (sym (end.0 ∙ end.1.is))
    ∙ ap (likeness (labelled_type r c.args.old)) (sym c.in-String-newer.ensures)

pub compare_kinds-returns-then-not-is_one_family-clause-ok : goal.compare_kinds-returns-then-not-is_one_family-clause-ok
compare_kinds-returns-then-not-is_one_family-clause-ok t c =
    c.of_leaves.ensures
    ∙ apart-told c.args.self.now.old.table.now c.args.self.now.new.table.now c.args.pair.old c.args.pair.new c.args.kind.now c.args.other.now c.in_ok-old.old c.in_ok-new.new
    c.requires.old c.requires.new c.in_ok-old.ensures c.in_ok-new.ensures (sym c.if-not-is_one_family.ensures)

pub compare_kinds-compare_parts-requires : goal.compare_kinds-compare_parts-requires
compare_kinds-compare_parts-requires t c =
    let r = c.args.self.now.old.table.now in
    let s = c.args.self.now.new.table.now in
    let older = parts-are r c.args.pair.old c.args.kind.now c.as_slice.result.now (c.as_slice.ensures.value ∙ c.in_ok-old.ensures.parts) c.requires.old.below c.requires.old.typed in
    let newer = parts-are s c.args.pair.new c.args.other.now c.as_slice-2.result.now (c.as_slice-2.ensures.value ∙ c.in_ok-new.ensures.parts) c.requires.new.below c.requires.new.typed in
    (search rules, (older, (newer.1, c.requires.right)))

pub compare_kinds-returns-clause-ok : goal.compare_kinds-returns-clause-ok
compare_kinds-returns-clause-ok t c =
    let r = c.args.self.now.old.table.now in
    let s = c.args.self.now.new.table.now in
    let parts : c.in_ok-parts.parts ≡ parts_likeness (part_types r c.in_ok-old.old.parts.items) (part_types s c.in_ok-new.new.parts.items) =
    c.in_ok-parts.ensures.ok ∙ ap (λ ps. parts_likeness (part_types r ps) (part_types s c.as_slice-2.result.now)) c.as_slice.ensures.value
    ∙ ap (λ ps. parts_likeness (part_types r c.in_ok-old.old.parts.items) (part_types s ps)) c.as_slice-2.ensures.value in
    c.whole.ensures
    ∙ whole-told r s c.args.pair.old c.args.pair.new c.args.kind.now c.args.other.now c.in_ok-old.old c.in_ok-new.new c.in_ok-parts.parts c.fit-fits.result
    c.requires.old c.requires.new c.in_ok-old.ensures c.in_ok-new.ensures (sym c.if-not-is_one_family.ensures) parts c.fit-fits.ensures

pub compare_parts-returns-then-i-others-clause-ok : goal.compare_parts-returns-then-i-others-clause-ok
compare_parts-returns-then-i-others-clause-ok t c =
    let r = c.args.self.now.old.table.now in
    let s = c.args.self.now.new.table.now in
    newer-end c.loop-i.all c.loop-i.i (part_types r c.args.parts.now) (part_types s c.args.others.now)
    (omega (arith, length-map c.args.others.now (option_map (labelled_type s)), c.if-i-others.true)) c.loop-i.invariant.rest

pub compare_parts-returns-clause-ok : goal.compare_parts-returns-clause-ok
compare_parts-returns-clause-ok t c =
    let r = c.args.self.now.old.table.now in
    let s = c.args.self.now.new.table.now in
    older-end c.loop-i.all c.loop-i.i (part_types r c.args.parts.now) (part_types s c.args.others.now)
    (omega (arith, length-map c.args.parts.now (option_map (labelled_type r)), c.loop-i-test.false)) c.loop-i.invariant.rest

pub compare_parts-loop-i-preserved : goal.compare_parts-loop-i-preserved
compare_parts-loop-i-preserved t c =
    let r = c.args.self.now.old.table.now in
    let s = c.args.self.now.new.table.now in
    let i = c.loop-i.i in
    let ps = part_types r c.args.parts.now in
    let qs = part_types s c.args.others.now in
    let p = option_map (labelled_type r) (get_or c.args.parts.now i None) in
    let q = option_map (labelled_type s) (get_or c.args.others.now i None) in
    let in_parts : i < length c.args.parts.now = omega (arith, c.loop-i-test.true) in
    let in_others : i < length c.args.others.now = omega (arith, c.if-i-others.false) in
    let step = rest-steps c.loop-i.all c.in_ok-here.here i ps qs p q
    (omega (arith, length-map c.args.parts.now (option_map (labelled_type r)), in_parts)) (omega (arith, length-map c.args.others.now (option_map (labelled_type s)), in_others))
    (sym (get_or-map (option_map (labelled_type r)) c.args.parts.now i None p in_parts)) (sym (get_or-map (option_map (labelled_type s)) c.args.others.now i None q in_others))
    c.in_ok-here.ensures.ok c.loop-i.invariant.rest in
    record { right = c.in_ok-here.ensures.right; rest = subst (λ a. LeavesRest a (i + 1) ps qs) (sym c.and-all.ensures) step }
