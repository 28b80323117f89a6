use Rattle.std.proofs.Common.{◌≡◌, ◌+◌, [], None, drop, get_or, drop_of_length-le, refl, sym, ◌∙◌, subst, arith}
use Rattle.std.proofs.lemmas.Result.{err_from_is_err_and}
use Rattle.std.specs.Int.{next_multiple_of}
use Rattle.canonical_abi.specs.Types.{record_fields}
use Rattle.canonical_abi.specs.Layout.{size, align}
use Rattle.tables.specs.Closed.{closed_type}
use Rattle.values.proofs.FieldsFromAPlace.{fields_from, fields-inside, fields-end}
use Rattle.crossing.specs.Outcome.{FieldsWalk}
use Rattle.crossing.specs.Steps.{leaf_type}
use Rattle.crossing.proofs.ScriptsOfTypes.{fields-none}
use Rattle.crossing.proofs.OneNodeOfAWay.{field-next, field-stopped}
use Rattle.crossing.proofs.PartsOfWaysInOrder.{begun, begun-done}
use Rattle.crossing.proofs.RecordMembersByStep.{step-here, step-last, none}
use Rattle.crossing.proofs.walk.Walk.cross_steps.Goals as goal

pub loop-step-init : goal.loop-step-init
loop-step-init g c = (0, begun g.G.Guest.allocates _ (g.G.Guest.memory c.args.guest.now) c.args.nodes.now, refl, rw c.as_slice-list.ensures.value c.requires.stepped.1)

pub overflow_add-behind : goal.overflow_add-behind
overflow_add-behind g c =
    let fs = record_fields (closed_type c.args.self.now.types.now c.args.steps.now.ty) in
    let (end, b, w, planned) = c.loop-step.invariant in
    let i = c.loop-step.step-index in
    let s = get_or c.as_slice-list.result.now i none in
    let n = step-here fs c.as_slice-list.result.now i end none c.loop-step-test.true planned in
    let h = fields-inside fs i (leaf_type s.leaf) end _ n.found w in
    let k = rw (← n.place) at h in
    omega (arith, k, c.requires.fits, c.requires.short)

pub overflow_add-behind-in-loop-step : goal.overflow_add-behind-in-loop-step
overflow_add-behind-in-loop-step g c =
    let fs = record_fields (closed_type c.args.self.now.types.now c.args.steps.now.ty) in
    let (end, b, w, planned) = c.loop-step.invariant in
    let i = c.loop-step.step-index in
    let s = get_or c.as_slice-list.result.now i none in
    let n = step-here fs c.as_slice-list.result.now i end none c.loop-step-test.true planned in
    let h = fields-inside fs i (leaf_type s.leaf) end _ n.found w in
    let k = rw (← n.place) at h in
    omega (arith, k, c.requires.small)

pub cross_leaf-requires-clause-leaf : goal.cross_leaf-requires-clause-leaf
cross_leaf-requires-clause-leaf g c =
    let fs = record_fields (closed_type c.args.self.now.types.now c.args.steps.now.ty) in
    let (end, b, w, planned) = c.loop-step.invariant in
    let i = c.loop-step.step-index in
    let s = get_or c.as_slice-list.result.now i none in
    let n = step-here fs c.as_slice-list.result.now i end none c.loop-step-test.true planned in
    n.leaf

pub cross_leaf-requires-clause-fits : goal.cross_leaf-requires-clause-fits
cross_leaf-requires-clause-fits g c =
    let fs = record_fields (closed_type c.args.self.now.types.now c.args.steps.now.ty) in
    let (end, b, w, planned) = c.loop-step.invariant in
    let i = c.loop-step.step-index in
    let s = get_or c.as_slice-list.result.now i none in
    let n = step-here fs c.as_slice-list.result.now i end none c.loop-step-test.true planned in
    let h = fields-inside fs i (leaf_type s.leaf) end _ n.found w in
    let k = rw (← n.place) at h in
    omega (arith, k, c.requires.fits)

pub cross_leaf-requires-clause-room : goal.cross_leaf-requires-clause-room
cross_leaf-requires-clause-room g c =
    let fs = record_fields (closed_type c.args.self.now.types.now c.args.steps.now.ty) in
    let (end, b, w, planned) = c.loop-step.invariant in
    let i = c.loop-step.step-index in
    let s = get_or c.as_slice-list.result.now i none in
    let n = step-here fs c.as_slice-list.result.now i end none c.loop-step-test.true planned in
    let h = fields-inside fs i (leaf_type s.leaf) end _ n.found w in
    let k = rw (← n.place) at h in
    omega (arith, k, c.requires.room, b.no_shorter)

pub cross_leaf-requires-clause-small : goal.cross_leaf-requires-clause-small
cross_leaf-requires-clause-small g c =
    let fs = record_fields (closed_type c.args.self.now.types.now c.args.steps.now.ty) in
    let (end, b, w, planned) = c.loop-step.invariant in
    let i = c.loop-step.step-index in
    let s = get_or c.as_slice-list.result.now i none in
    let n = step-here fs c.as_slice-list.result.now i end none c.loop-step-test.true planned in
    let h = fields-inside fs i (leaf_type s.leaf) end _ n.found w in
    let k = rw (← n.place) at h in
    omega (arith, k, c.requires.small)

pub returns-in_err-cross_leaf : goal.returns-in_err-cross_leaf
returns-in_err-cross_leaf g c =
    let fs = record_fields (closed_type c.args.self.now.types.now c.args.steps.now.ty) in
    let (end, b, w, planned) = c.loop-step.invariant in
    let i = c.loop-step.step-index in
    let s = get_or c.as_slice-list.result.now i none in
    let n = step-here fs c.as_slice-list.result.now i end none c.loop-step-test.true planned in
    let here = rw n.place at c.in_err-cross_leaf.ensures in
    let p = err_from_is_err_and c.from_residual.result c.from_residual.ensures.1 in
    rw (p.1, p.2) (field-stopped g.G.Guest.allocates fs c.args.self.now.source.now c.args.at.from c.args.at.to i end (leaf_type s.leaf) n.found c.are_bytes.ensures c.requires.short c.reads_exactly.ensures
    (g.G.Guest.memory c.args.guest.now) (g.G.Guest.memory c.loop-step.guest) c.in_err-cross_leaf.field-0.0 (g.G.Guest.memory c.cross_leaf.new.guest) c.args.nodes.now c.loop-step.nodes c.cross_leaf.new.nodes b here)

pub loop-step-preserved : goal.loop-step-preserved
loop-step-preserved g c =
    let fs = record_fields (closed_type c.args.self.now.types.now c.args.steps.now.ty) in
    let (end, b, w, planned) = c.loop-step.invariant in
    let i = c.loop-step.step-index in
    let s = get_or c.as_slice-list.result.now i none in
    let n = step-here fs c.as_slice-list.result.now i end none c.loop-step-test.true planned in
    let u = leaf_type s.leaf in
    let here = rw n.place at c.in_ok-cross_leaf.ensures in (
      next_multiple_of end (align u) + size u,
      field-next g.G.Guest.allocates fs c.args.self.now.source.now c.args.at.from c.args.at.to i end u n.found
          (g.G.Guest.memory c.args.guest.now) (g.G.Guest.memory c.loop-step.guest) (g.G.Guest.memory c.cross_leaf.new.guest) c.args.nodes.now c.loop-step.nodes c.cross_leaf.new.nodes b here,
      sym (fields-end fs end i u n.found) ∙ w,
      rw n.place at n.behind,
    )

pub returns : goal.returns
returns g c =
    let fs = record_fields (closed_type c.args.self.now.types.now c.args.steps.now.ty) in
    let (end, b, w, planned) = c.loop-step.invariant in
    let i = c.loop-step.step-index in
    let m = c.args.self.now.source.now in
    let left : drop i c.as_slice-list.result.now ≡ [] = drop_of_length-le c.as_slice-list.result.now (omega (arith, c.loop-step-test.false)) in
    let last = step-last (fields_from i fs) end (rw left at planned) in
    begun-done g.G.Guest.allocates (FieldsWalk fs m c.args.at.from c.args.at.to 0) (FieldsWalk (fields_from i fs) m c.args.at.from c.args.at.to end) (g.G.Guest.memory c.args.guest.now) (g.G.Guest.memory c.loop-step.guest) c.args.nodes.now c.loop-step.nodes b
    (subst (λ gs. FieldsWalk gs m c.args.at.from c.args.at.to end None []) (sym last) (fields-none m c.args.at.from c.args.at.to end))
